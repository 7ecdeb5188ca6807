-- Where the asks of a thread leave those of its source is one place, and there is none where they are its first ones.
use Rattle.std.proofs.Common.{◌≡◌, inl, inr, ℕ, ◌<◌, ◌⊎◌, List, sym, ap, ◌∙◌}
use Rattle.std.specs.Prelude.{slice_get}
use Rattle.std.proofs.lemmas.Bool.{cases_order}
use Rattle.lam_asks.specs.declared.ask.Ask.{Ask}
use Rattle.lam_meaning_laws.specs.Acts.{AreFirst}
use Rattle.source_walk_terms.specs.Departs.{DepartsAt}
use Rattle.source_walk_meets.proofs.Lists.{front_get, take_get}

pub first_stays : (asked made : List Ask) (p : ℕ) → AreFirst asked made → DepartsAt asked made p → ⊥
first_stays asked made p first d = d.differs (ap (λ l. slice_get l p) first.1 ∙ front_get asked first.0 p d.there)

earlier : (asked made : List Ask) (p q : ℕ) → DepartsAt asked made p → DepartsAt asked made q → p < q → ⊥
earlier asked made p q d e lt = d.differs (sym (take_get q p made lt) ∙ ap (λ l. slice_get l p) (sym e.before) ∙ take_get q p asked lt)

pub leaves_once : (asked made : List Ask) (p q : ℕ) → DepartsAt asked made p → DepartsAt asked made q → p ≡ q
leaves_once asked made p q d e = by (cases_order p q)
  where
    by : (p ≡ q) ⊎ ((p < q) ⊎ (q < p)) → p ≡ q
    by (inl same) = same
    by (inr (inl lt)) = absurd (earlier asked made p q d e lt)
    by (inr (inr lt)) = absurd (earlier asked made q p e d lt)
