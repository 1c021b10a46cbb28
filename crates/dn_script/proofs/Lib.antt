mod DecimalLemmas
mod DraftLemmas
mod FieldLemmas
pub mod LineFits
mod LeadLemmas
mod LeftLemmas
mod PartLemmas
mod SaidFits
mod ValueFits
mod Walks
mod AskedLemmas
