-- The fold keeps whether all records so far are empty.
use Rattle.std.proofs.Common.{◌≡◌, ◌∙◌, ◌∷◌, [], ap, rules}
use Rattle.std.specs.List.{list_all}
use Rattle.std.proofs.lemmas.Fn.{fold_over, slice_gives, fronts}
use Rattle.std.proofs.lemmas.List.Folds.{list_all-append}
use Rattle.reader_marks.specs.Registry.{is_empty}
use Rattle.reader_marks.proofs.all_empty.Goals as goal

pub returns : goal.returns
returns c =
    fold_over fronts (λ y. y.now) _ (λ ys b. b ≡ list_all is_empty ys) _
    (λ ys a x b f' j k. let more = list_all-append is_empty ys (x.now ∷ []) in search (rules, more)) _ _ _ _ (slice_gives c.iter.result) (search rules) c.fold.ensures.ran
    ∙ ap (list_all is_empty) c.iter.ensures.rest
