-- A place more in the book.
use Rattle.std.proofs.Common.{◌≡◌, ℕ, suc, ◌+◌, ◌<◌, ◌≤◌, ◌==◌, List, [], ◌∷◌, ◌++◌, length, Some, None, Option, cond, refl, sym, ap, ◌∙◌, subst, arith, length-append}
use Rattle.lam_machine_terms.specs.Worlds.{World}
use Rattle.lam_machine_terms.specs.Turns.{replay, ready}
use Rattle.lam_asks.specs.declared.answer.Event.{Event}
use Rattle.lam_machine_laws.specs.Turned.{IsTurn}
use Rattle.thread_host_run.specs.Runs.{Ran, IsWhole}
use Rattle.seat_host.specs.declared.answer.TurnAnswer.{TurnAnswer}
use Rattle.seat_host.specs.declared.answer.TurnAnswer.TheVariants.{Worn, Stale, Full, NotReady, NoMemory, Took}
use Rattle.seat_host.specs.Places.{shared, turns_in, world_at, spread, last_of}
use Rattle.seat_host.specs.Answers.{holding, Comes, IsFresh, HasRoom}
use Rattle.seat_host.specs.Books.{IsBook, last_in, Stays, Takes, MayTry, Enters}
use Rattle.seat_host.proofs.Spreading.{length-spread, spread-none, spread-turn, turns-none, turns-more, last-none, last-more}

-- what the book is after a place more
pub record Entered (r : Ran) (held : List ℕ) (count seen thread : ℕ) (a : TurnAnswer) (s : Ran) (held' : List ℕ) (table' : List (Option ℕ)) : Type 0 where
  pub places : spread 0 (count + 1) held' s.turns ≡ spread 0 count held r.turns ++ holding thread a ∷ []
  pub book : IsBook s.turns held' table' (count + 1)
  pub code : s.code ≡ r.code
  pub start : s.start ≡ r.start
  pub comes : Comes (shared r.code r.start (spread 0 count held r.turns)) seen thread a

more : (count : ℕ) → count + 1 ≡ suc count
more count = omega arith

-- no turn was taken
none_entered : (r : Ran) (held : List ℕ) (table : List (Option ℕ)) (count seen thread : ℕ) (a : TurnAnswer) (s : Ran) (held' : List ℕ) (table' : List (Option ℕ)) → IsBook r.turns held table count → Stays r held table s held' table'
    → holding thread a ≡ None → Comes (shared r.code r.start (spread 0 count held r.turns)) seen thread a → Entered r held count seen thread a s held' table'
none_entered r held table count seen thread a s held' table' b stays empty comes =
    let places = spread 0 count held r.turns in
    let grows : spread 0 (count + 1) held' s.turns ≡ places ++ None ∷ [] =
    (λ i. spread 0 (more count i) (stays.held_is i) (stays.run i).turns) ∙ spread-none 0 count held r.turns b.lengths b.turns_are in record {
      places = grows ∙ ap (λ x. places ++ x ∷ []) (sym empty);
      book = record {
        turns_are = ap turns_in grows ∙ turns-none places ∙ b.turns_are ∙ ap (λ (x : Ran). x.turns) (sym stays.run);
        lengths = ap length stays.held_is ∙ b.lengths ∙ ap (λ (x : Ran). length x.turns) (sym stays.run);
        last = λ t. ap (last_of t) grows ∙ last-none t places ∙ b.last t ∙ sym (stays.table_is t);
      };
      code = ap (λ (x : Ran). x.code) stays.run;
      start = ap (λ (x : Ran). x.start) stays.run;
      comes = comes;
    }

-- a turn was taken
turn_entered : (r : Ran) (held : List ℕ) (table : List (Option ℕ)) (count seen thread : ℕ) (a : TurnAnswer) (event : Event) (s : Ran) (held' : List ℕ) (table' : List (Option ℕ)) → IsBook r.turns held table count
    → Takes r held table count thread event s held' table' → holding thread a ≡ Some thread → Comes (shared r.code r.start (spread 0 count held r.turns)) seen thread a → Entered r held count seen thread a s held' table'
turn_entered r held table count seen thread a event s held' table' b takes full comes =
    let places = spread 0 count held r.turns in
    let ran : s.turns ≡ r.turns ++ thread ∷ [] = ap (λ (x : Ran). x.turns) takes.run in
    let grows : spread 0 (count + 1) held' s.turns ≡ places ++ Some thread ∷ [] =
    (λ i. spread 0 (more count i) (takes.held_is i) (ran i)) ∙ spread-turn 0 count count thread held r.turns (omega arith) b.lengths b.turns_are in record {
      places = grows ∙ ap (λ x. places ++ x ∷ []) (sym full);
      book = record {
        turns_are = ap turns_in grows ∙ turns-more places thread ∙ ap (λ (l : List ℕ). l ++ thread ∷ []) b.turns_are ∙ sym ran;
        lengths = let e = b.lengths in omega (arith, ap length takes.held_is, ap length ran, length-append held (count ∷ []), length-append r.turns (thread ∷ []));
        last = λ t. ap (last_of t) grows ∙ last-more t thread count places (length-spread 0 count held r.turns) ∙ ap (λ o. cond (thread == t) (Some count) o) (b.last t) ∙ sym (takes.table_is t);
      };
      code = ap (λ (x : Ran). x.code) takes.run;
      start = ap (λ (x : Ran). x.start) takes.run;
      comes = comes;
    }

-- where the run stands, by its places
stands : (r : Ran) (held : List ℕ) (table : List (Option ℕ)) (count : ℕ) → IsBook r.turns held table count → IsWhole r → world_at r.code r.start (spread 0 count held r.turns) ≡ r.world
stands r held table count b whole = ap (λ (ts : List ℕ). replay r.code ts r.start) b.turns_are ∙ sym whole.world

has_room : (r : Ran) (held : List ℕ) (table : List (Option ℕ)) (count seen thread p : ℕ) → IsBook r.turns held table count → p ≡ count → MayTry r table seen thread → HasRoom (shared r.code r.start (spread 0 count held r.turns)) seen thread p
has_room r held table count seen thread p b at may = record {
  place_is = at ∙ sym (length-spread 0 count held r.turns);
  fresh = subst (IsFresh seen) (sym (b.last thread)) may.fresh;
  room = subst (λ (l : List ℕ). length l < 1000000) (sym b.turns_are) may.room;
}

pub entered : (r : Ran) (held : List ℕ) (table : List (Option ℕ)) (count seen thread : ℕ) (a : TurnAnswer) (s : Ran) (held' : List ℕ) (table' : List (Option ℕ)) → IsBook r.turns held table count → IsWhole r
    → Enters r held table count seen thread a s held' table' → Entered r held count seen thread a s held' table'
entered r held table count seen thread (Worn d) s held' table' b whole e = absurd e
entered r held table count seen thread (Stale p l) s held' table' b whole e =
    none_entered r held table count seen thread (Stale p l) s held' table' b e.3 refl (e.0 ∙ sym (length-spread 0 count held r.turns), b.last thread ∙ e.1, e.2)
entered r held table count seen thread (Full p) s held' table' b whole e =
    none_entered r held table count seen thread (Full p) s held' table' b e.3 refl
    (e.0 ∙ sym (length-spread 0 count held r.turns), subst (IsFresh seen) (sym (b.last thread)) e.1, subst (λ (l : List ℕ). 1000000 ≤ length l) (sym b.turns_are) e.2)
entered r held table count seen thread (NotReady p) s held' table' b whole e =
    none_entered r held table count seen thread (NotReady p) s held' table' b e.3 refl
    (has_room r held table count seen thread p b e.0 e.1, ap (λ w. ready r.code w thread) (stands r held table count b whole) ∙ e.2)
entered r held table count seen thread (NoMemory p) s held' table' b whole e =
    none_entered r held table count seen thread (NoMemory p) s held' table' b e.3 refl
    (has_room r held table count seen thread p b e.0 e.1, ap (λ w. ready r.code w thread) (stands r held table count b whole) ∙ e.2)
entered r held table count seen thread (Took p event) s held' table' b whole e =
    turn_entered r held table count seen thread (Took p event) event s held' table' b e.2 refl
    (has_room r held table count seen thread p b e.0 e.1, (s.world, subst (λ (w : World). IsTurn r.code thread w event s.world) (sym (stands r held table count b whole)) e.2.turn))
