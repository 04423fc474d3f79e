-- Values beside the data that they stand for, and tests of text: those of scripts.
pub use Rattle.tl_script.proofs.Views.{list_of-view, is_utf8-no, IsUtf8-from_is_utf8, is_utf8-from_IsUtf8}

pub ruleset array_laws = (list_of-view)

pub ruleset text_tests = (is_utf8-from_IsUtf8, is_utf8-no)
