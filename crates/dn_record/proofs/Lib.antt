pub mod HeadLemmas
pub mod ValueLemmas
pub mod SpelledLemmas
pub mod SeenLemmas
pub mod LookLemmas
pub mod LawLemmas
