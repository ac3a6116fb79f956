pub mod TopLemmas
pub mod TalkLemmas
pub mod ScriptLemmas
