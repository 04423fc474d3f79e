pub mod WordLemmas
pub mod RunLemmas
pub mod HandLemmas
pub mod ScannerLemmas
pub mod LeftLemmas
pub mod CodeLemmas
pub mod DumpLemmas
pub mod DigitLemmas
