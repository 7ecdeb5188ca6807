-- A run with one turn more.
use Rattle.std.proofs.Common.{◌≡◌, ℕ, ◌+◌, ◌<◌, ◌≤◌, true, List, [], ◌∷◌, ◌++◌, Some, None, length, refl, sym, ap, ◌∙◌, subst, arith, length-append}
use Rattle.std.specs.Prelude.{is_some}
use Rattle.std.proofs.lemmas.Option.{slice_get_within}
use Rattle.std.proofs.lemmas.List.Elements.{All-push, All-nil}
use Rattle.lam_asks.specs.declared.answer.Event.{Event}
use Rattle.lam_bytecode.specs.Codes.{CodeTree}
use Rattle.lam_machine_terms.specs.Worlds.{World}
use Rattle.lam_machine_terms.specs.Turns.{Moment, step, ready}
use Rattle.lam_machine_terms.specs.Valid.{IsValid}
use Rattle.lam_machine_laws.proofs.TurnLemmas.{acts}
use Rattle.lam_machine.specs.Worlds.{IsSound}
use Rattle.lam_machine.proofs.Sound.{sound_replay}
use Rattle.lam_machine_runs.proofs.RunLemmas.{joined_runs}
use Rattle.turn_book.specs.Book.{AreTurns}
use Rattle.lam_machine_laws.specs.Turned.{IsTurn}
use Rattle.thread_host_run.specs.Runs.{Ran, IsWhole, opened, with_turn}

pub none_taken : (code : CodeTree) (w : World) (t : ℕ) → ready code w t ≡ true → step code w t ≡ None → ⊥
unfolding ready
none_taken code w t e f = let no = sym e ∙ ap is_some f in cc

-- ---- a run as it is

pub sound_now : (r : Ran) → IsWhole r → IsSound r.code r.world
sound_now r h = subst (IsSound r.code) (sym h.world) (sound_replay r.code r.start r.turns h.start)

pub valid_now : (r : Ran) → IsWhole r → IsValid r.world
valid_now r h = (sound_now r h).valid

pub whole_opened : (code : CodeTree) (start : World) → IsSound code start → IsWhole (opened code start)
whole_opened code start sound =
    record { start = sound; run = tt; world = refl; book = record { few = omega arith; threads = All-nil _ } }

-- ---- one turn more

one_more_few : (ts : List ℕ) (t : ℕ) → length ts < 1000000 → length (ts ++ t ∷ []) ≤ 1000000
one_more_few ts t h = let e : length (ts ++ t ∷ []) ≡ length ts + 1 = length-append ts (t ∷ []) in omega (arith, e, h)

low : (t n : ℕ) → t < n → n ≤ 4096 → t ≤ 4095
low t n h k = omega (arith, h, k)

-- a thread that takes a turn is one of the 4,096
thread_low : (code : CodeTree) (w : World) (t : ℕ) (m : Moment) → IsValid w → step code w t ≡ Some m → t ≤ 4095
thread_low code w t m valid e = let a = acts code w t m e in low t (length w.threads) (slice_get_within w.threads t a.thread a.at) valid.number

book_grows : (ts : List ℕ) (t : ℕ) → AreTurns ts → length ts < 1000000 → t ≤ 4095 → AreTurns (ts ++ t ∷ [])
book_grows ts t h few k = record { few = one_more_few ts t few; threads = All-push (λ u. u ≤ 4095) ts t h.threads k }

pub whole_grows : (r : Ran) (t : ℕ) (e : Event) (after : World) → IsWhole r → length r.turns < 1000000 → IsTurn r.code t r.world e after → IsWhole (with_turn r t after)
whole_grows r t e after h few turn =
    let m : Moment = record { event = e; made = turn.made; world = after } in
    let g = (joined_runs r.code).grows r.start r.turns t m h.run (subst (λ w. step r.code w t ≡ Some m) h.world turn.is) in
    record {
      start = h.start;
      run = g.0;
      world = sym g.2;
      book = book_grows r.turns t h.book few (thread_low r.code r.world t m (valid_now r h) turn.is);
    }
