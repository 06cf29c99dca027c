mod ContentLemmas
mod LawLemmas
