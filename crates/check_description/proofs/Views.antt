-- Tests of text: those of scripts.
pub use Rattle.tl_script.proofs.Views.{is_utf8-no, is_utf8-from_IsUtf8}

pub ruleset text_tests = (is_utf8-from_IsUtf8, is_utf8-no)
