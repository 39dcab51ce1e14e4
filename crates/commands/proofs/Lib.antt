pub mod AuditLemmas
pub mod AnswerLemmas
pub mod CheckLemmas
pub mod ClusterLemmas
pub mod CommandLemmas
pub mod NodeLemmas
pub mod RunLemmas
