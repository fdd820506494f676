-- `noting::counted` meets its contract: the words of a tally are its numbers, the last ten those of the flags.
-- Assumes nothing.
use Rattle.std.proofs.Common.{rules, ◌≡◌, ◌∙◌, ◌∷◌, List, ℕ, refl, ap, length}
use Rattle.std.proofs.lemmas.List.{append-nil}
use Rattle.noting.proofs.Ten.{ten_numbers}
use Rattle.noting.proofs.counted.Goals as goal

pub returns : goal.returns
returns c =
    let t = c.args.tally in
    let ten : length t.asked ≡ 10 = search rules in
    (refl, ap (λ (l : List ℕ). t.played ∷ t.yes ∷ t.changes ∷ l) (append-nil _ ∙ c.copy_from_slice.ensures.after ∙ ten_numbers t.asked ten))
