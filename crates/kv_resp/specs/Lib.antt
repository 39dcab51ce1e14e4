pub mod Laws
pub mod Results
pub mod Table
pub mod View
