-- The laws of a checked program's resolution.
use Rattle.std.proofs.Common.{◌≡◌, Option, refl, sym, subst}
use Rattle.std.specs.Prelude.{IsSome, IsSomeAnd}
use Rattle.lam_syntax.specs.Tree.{ProgramTree}
use Rattle.lam_syntax.specs.Unplaced.{unplaced}
use Rattle.region_check.specs.Judgement.{IsTyped}
use Rattle.region_check.specs.Legal.{IsRegionLegal}
use Rattle.lam_resolve_tree.specs.Tree.{ResolvedTree}
use Rattle.lam_resolve_tree.specs.Typing.{IsTypedTree}
use Rattle.lam_resolve_tree.specs.Regions.{AreNumbered}
use Rattle.lam_resolve_tree.specs.Slots.{SlotsDiffer}
use Rattle.lam_resolve_tree.specs.Limits.{WithinLimits}
use Rattle.lam_resolve_laws.specs.Resolved.{resolved}
use Rattle.lam_resolve_laws.specs.Names.{names_of, program_named}
use Rattle.lam_resolve_laws.proofs.Has.{Has}
use Rattle.lam_resolve_laws.proofs.Programs.{IsResolvedFrom, program_is}
use Rattle.lam_resolve_laws.proofs.NewSlots.{slots_differ}

some_and : {A : Type 0} (o : Option A) (P Q : A → Type 0) → Has o P → ((a : A) → P a → Q a) → IsSomeAnd o Q
some_and o P Q h k = subst (λ (o : Option _). IsSomeAnd o Q) (sym h.is) (k h.it h.holds)

module _ (p : ProgramTree) (typed : IsTyped p) (legal : IsRegionLegal p) where
  pub resolves : IsSome (resolved p)
  resolves = let h = program_is p typed legal in subst (λ (o : Option ResolvedTree). IsSome o) (sym h.is) refl

  pub resolves_typed : IsSomeAnd (resolved p) (λ r. IsTypedTree r)
  resolves_typed = some_and (resolved p) (λ r. IsResolvedFrom p r) (λ r. IsTypedTree r) (program_is p typed legal) (λ r h. h.typed)

  pub resolves_slots : IsSomeAnd (resolved p) (λ r. SlotsDiffer r)
  resolves_slots = some_and (resolved p) (λ r. IsResolvedFrom p r) (λ r. SlotsDiffer r) (program_is p typed legal) (λ r h. slots_differ r h.typed)

  pub resolves_regions : IsSomeAnd (resolved p) (λ r. AreNumbered r)
  resolves_regions = some_and (resolved p) (λ r. IsResolvedFrom p r) (λ r. AreNumbered r) (program_is p typed legal) (λ r h. h.numbered_by_place)

  pub resolves_limits : IsSomeAnd (resolved p) (λ r. WithinLimits r)
  resolves_limits = some_and (resolved p) (λ r. IsResolvedFrom p r) (λ r. WithinLimits r) (program_is p typed legal) (λ r h. h.limits)

  pub resolves_reads : IsSomeAnd (resolved p) (λ r. program_named (names_of p) r ≡ unplaced p)
  resolves_reads = some_and (resolved p) (λ r. IsResolvedFrom p r) (λ r. program_named (names_of p) r ≡ unplaced p) (program_is p typed legal) (λ r h. h.reads)
