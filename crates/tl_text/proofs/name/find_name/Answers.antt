-- `find` over the names is `find` of the list.
use Rattle.std.proofs.Common.{◌∙◌, rules, tests}
use Rattle.std.proofs.lemmas.Iterator.{YieldsList-from_slice}
use Rattle.std.proofs.lemmas.Iterator.Search.{find_from_yields_List}
use Rattle.std.specs.Str.{bytes_eq}
use Rattle.tl_text.specs.Name.{operation_word}
use Rattle.tl_text.proofs.name.find_name.Goals as goal

pub returns : goal.returns
returns c =
    c.copied.ensures ∙ find_from_yields_List
    (λ name. bytes_eq (operation_word name) c.args.name.now) _ _ c.find.result c.find.ensures.ran
    (YieldsList-from_slice c.args.operations.now cc) (λ x b q k. search (rules, tests))
