pub mod AttachingLemmas
