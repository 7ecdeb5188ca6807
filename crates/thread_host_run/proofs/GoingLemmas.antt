-- Private turns of one thread of many.
use Rattle.std.proofs.Common.{◌≡◌, ℕ, ◌<◌, ◌++◌, List, length, get_or, set, refl, sym, ap, ◌∙◌, subst}
use Rattle.std.specs.Prelude.{replicate}
use Rattle.std.proofs.lemmas.Option.{slice_get_read}
use Rattle.std.proofs.lemmas.List.{set-get_or}
use Rattle.lam_bytecode.specs.Codes.{CodeTree}
use Rattle.thread_steps.specs.Threads.{Thread}
use Rattle.thread_core_stretches.specs.Stretches.{WentPrivately}
use Rattle.thread_core_stretches.specs.declared.stretch.Stretch.{Stretch}
use Rattle.lam_machine_terms.specs.Worlds.{World}
use Rattle.lam_machine_effects.specs.declared.stores.Stores.{Stores}
use Rattle.lam_machine_effects.specs.Parts.{world_of}
use Rattle.lam_machine.specs.Worlds.{IsSound}
use Rattle.thread_host_run.specs.Courses.{Progress}
use Rattle.thread_host_run.specs.Stretched.{WentOn, checked_in}
use Rattle.thread_host_run.specs.Going.{WentIn}
use Rattle.thread_host_run.proofs.Others.{Moved}
use Rattle.thread_host_run.proofs.StretchLemmas.{stretch_sound, stretch_moved}

pub went_at : (code : CodeTree) (s : Stores) (threads : List Thread) (t n : ℕ) (th to : Thread) → t < length threads → th ≡ get_or threads t th → WentPrivately code th n to → WentIn code t n (world_of s threads) (world_of s (set threads t to))
went_at code s threads t n th to k e went =
    record { from = th; to = to; at = slice_get_read threads (length threads) t th refl k e; went = went; leaves = refl }

pub kept_at : (threads : List Thread) (t : ℕ) (th to : Thread) → th ≡ get_or threads t th → to ≡ th → set threads t to ≡ threads
kept_at threads t th to e f = ap (set threads t) (f ∙ e) ∙ set-get_or threads t th

-- as those of a course
pub went_along : (code : CodeTree) (t n : ℕ) (turns after : List ℕ) (before now : World) → WentIn code t n before now → after ≡ turns ++ replicate n t → WentOn code t n (record { turns = turns; world = before }) (record { turns = after; world = now })
went_along code t n turns after before now h more =
    let s : Stretch = record { thread = t; before = h.from; after = h.to; count = n } in
    record { stretch = s; thread = refl; count = refl; stands = (h.went.to, h.went.each); there = h.at; after = λ i. record { turns = more i; world = h.leaves i } }

module _ (code : CodeTree) (t n : ℕ) (p q : Progress) (went : WentOn code t n p q) where
  pub went_sound : IsSound code p.world → IsSound code q.world
  went_sound sound = subst (λ (x : Progress). IsSound code x.world) (sym went.after) (stretch_sound code went.stretch went.stands p went.there sound)

  pub went_moved : Moved p.world t q.world
  went_moved =
      subst (λ (x : Progress). Moved p.world t x.world) (sym went.after)
      (subst (λ (u : ℕ). Moved p.world u (checked_in p went.stretch).world) went.thread (stretch_moved code went.stretch went.stands p went.there))
