pub mod ActsLemmas
pub mod ConversationLemmas
pub mod FrontsLemmas
