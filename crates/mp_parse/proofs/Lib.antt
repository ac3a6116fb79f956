pub mod DepthLemmas
pub mod PartLaws
pub mod DeclarationLaws
pub mod ProgramLemmas
pub mod WithinLemmas
pub mod Raised
pub mod RaisedExpressions
pub mod RaisedTypes
pub mod RaisedHeadings
pub mod RaisedStatements
pub mod RaisedBlocks
pub mod ClosedLaws
pub mod LocalBlocks
pub mod ErrorLemmas
pub mod CauseLemmas
pub mod FirstErrorLemmas
pub mod FoundLemmas
mod StoppedLemmas
