-- Each step keeps the rule.
use Rattle.std.proofs.Common.{◌≡◌, ◌≢◌, ◌⊎◌, ℕ, zero, suc, ◌+◌, ◌<◌, ◌≤◌, ◌==◌, List, [], ◌∷◌, ◌++◌, length, set, Some, None, Option, Bool, true, false, cond, refl, sym, ap, ◌∙◌, subst, ⊎_elim, inl, inr, arith, length-append, eq-eqb, ne_eqb, eqb-true}
use Rattle.std.specs.Prelude.{slice_get, slice_index, slice_set, max, nat_lt, MatchBool}
use Rattle.std.specs.List.{All}
use Rattle.std.proofs.lemmas.List.Elements.{All-nil, All-cons, All-head, All-tail, All-push, All-weaker}
use Rattle.std.proofs.lemmas.Option.{slice_get_within}
use mathlib.Core.Option.{some, none, some-ne-none, some-injective}
use mathlib.Core.Logic.{dite}
use mathlib.Core.List.{IsPrefix}
use borrow.Author.Tests.{ltb-true}
use Rattle.std.proofs.lemmas.Bool.Decides.{nat_tests}
use native.Mathlib.Decide.{ℕ_discrete}
use prog.Atomic.{either}
use lib.ListN.{get_elem?}
use Rattle.atomic_table.specs.Table.{State, Me, Step, Act, keeps, takes, gives, step, Valid, homes_after, carried_after, Allows, Splits, Joins}
use Rattle.atomic_table.proofs.Lists.{at_set, at_snoc, set_again, set_here, set_else, at_longer}
use Rattle.seat_host.specs.declared.law.View.{View}
use Rattle.seat_host.specs.declared.law.Given.{Given}
use Rattle.seat_host.specs.Places.{Shared, shared}
use Rattle.seat_host.specs.Law.{Fits, HomeOrOut, Keeps, newcomer, looked, Looks, ticketed, Draws, served, Serves, finished, Finishes, fresh, nobody, last_place, places_in, longer, learned, Learns, placed, merged, joined}
use Rattle.seat_host.proofs.Fronts.{off, prefix_self, prefix_trans, prefix_more, prefix_shorter, slice_get_front, slice_get_end}

views_set : (P : ℕ → View → Type 0) (views : List View) (by : ℕ) (w : View) → ((j : ℕ) (u : View) → j ≢ by → get_elem? views j ≡ some u → P j u) → P by w → (j : ℕ) (u : View) → get_elem? (set views by w) j ≡ some u → P j u
views_set P views by w others mine j u e =
    ⊎_elim
    (λ (x : (j ≡ by) × (w ≡ u)). subst (λ (y : ℕ × View). P y.0 y.1) (λ i. (sym x.0 i, x.1 i)) mine)
    (λ (x : (j ≢ by) × (get_elem? views j ≡ some u)). others j u x.0 x.1)
    (at_set views by j w u e)

-- what was written where something was
set_there : (views : List View) (i : ℕ) (v w : View) → get_elem? views i ≡ some v → get_elem? (set views i w) i ≡ some w
set_there [] i v w e = absurd (some-ne-none v (sym e))
set_there (x ∷ xs) zero v w e = refl
set_there (x ∷ xs) (suc i) v w e = set_there xs i v w e

-- a place that is finished is below the ticket word, and has an owner below it
fits_grow : (g : Given) (log : List (Option ℕ)) (ticket more : ℕ) (owner now : ℕ → ℕ) (j : ℕ) (u : View) → length log ≤ ticket → ticket ≤ more → ((p : ℕ) → p < ticket → now p ≡ owner p) → Fits g log ticket owner j u → Fits g log more now j u
fits_grow g log ticket more owner now j u room le same f = record {
  given = f.given;
  seen = f.seen;
  told = f.told;
  drawn = let d = f.drawn in omega arith;
  mine = All-weaker (λ (e : ℕ × Option ℕ). (slice_get log e.0 ≡ Some e.1) × (owner e.0 ≡ j)) (λ (e : ℕ × Option ℕ). (slice_get log e.0 ≡ Some e.1) × (now e.0 ≡ j))
      (λ e h. (h.0, same e.0 (let lt = slice_get_within log e.0 e.1 h.0 in omega arith) ∙ h.1)) u.mine f.mine;
  waits = λ k. let w = f.waits k in (same u.ticket w.2 ∙ w.0, w.1, (let lt = w.2 in omega arith));
  acts = f.acts;
}

-- where one view changes, and acts on if it did, the slot is where it was
slot_set : (g : Given) (log : List (Option ℕ)) (ticket more : ℕ) (owner now : ℕ → ℕ) (s : State Shared View) (by : ℕ) (v w : View) (words : List ℕ) → ticket ≤ more → ((p : ℕ) → p < ticket → now p ≡ owner p) → get_elem? s.views by ≡ some v → (v.acts ≡ true → w.acts ≡ true) → HomeOrOut g log ticket owner s
    → HomeOrOut g log more now (record { words = words; homes = s.homes; views = set s.views by w })
slot_set g log ticket more owner now s by v w words le same at acts (inl home) = inl home
slot_set g log ticket more owner now s by v w words le same at acts (inr out) =
    let k : ℕ = owner (length log) in
    let is : now (length log) ≡ k = same (length log) out.1 in
    inr (out.0, (let lt = out.1 in omega arith), rw is (there k out.2.0 out.2.1 out.2.2 (ℕ_discrete k by)))
  where
    there : (k : ℕ) (u : View) → get_elem? s.views k ≡ some u → u.acts ≡ true → Dec (k ≡ by) → (x : View) × (get_elem? (set s.views by w) k ≡ some x) × (x.acts ≡ true)
    there k u here acting (yes e) = (w, subst (λ i. get_elem? (set s.views by w) i ≡ some w) (sym e) (set_there s.views by v w at), acts (subst (λ (x : View). x.acts ≡ true) (some-injective _ _ (sym here ∙ ap (λ i. get_elem? s.views i) e ∙ at)) acting))
    there k u here acting (no n) = (u, set_else s.views by k w n ∙ here, acting)

-- one view changes, and perhaps the ticket word
keeps_set : (g : Given) (s : State Shared View) (h : Keeps g s) (by : ℕ) (v w : View) (words : List ℕ) (more : ℕ) (now : ℕ → ℕ)
    → words ≡ more ∷ length h.log ∷ [] → h.ticket ≤ more → ((p : ℕ) → p < h.ticket → now p ≡ h.owner p) → get_elem? s.views by ≡ some v → (v.acts ≡ true → w.acts ≡ true) → Fits g h.log more now by w
    → Keeps g (record { words = words; homes = s.homes; views = set s.views by w })
keeps_set g s h by v w words more now are le same at acts fits = record {
  log = h.log;
  ticket = more;
  owner = now;
  words = are;
  room = let r = h.room in omega arith;
  slot = slot_set g h.log h.ticket more h.owner now s by v w words le same at acts h.slot;
  views = views_set (Fits g h.log more now) s.views by w (λ j u apart e. fits_grow g h.log h.ticket more h.owner now j u h.room le same (h.views j u e)) fits;
}

pub looks : (g : Given) (slots by : ℕ) (m : Me Shared View) (st : Step Shared) → Allows (Keeps g) slots by m 0 (λ n. n) (Looks st m)
looks g slots by m st s h homes at fits =
    let v : View = m.0 in
    let f = h.views by v at in
    let is : slice_index s.words 0 ≡ h.ticket = ap (λ (ws : List ℕ). slice_index ws 0) h.words in
    let words : slice_set s.words 0 (slice_index s.words 0) ≡ h.ticket ∷ length h.log ∷ [] = ap (λ (ws : List ℕ). slice_set ws 0 (slice_index ws 0)) h.words in
    let w = looked v (slice_index s.words 0) in (
      w,
      keeps,
      tt,
      keeps_set g s h by v w (slice_set s.words 0 (slice_index s.words 0)) h.ticket h.owner words (omega arith) (λ p lt. refl) at (λ a. a)
          (record { given = f.given; seen = f.seen; told = f.told; drawn = omega (arith, is); mine = f.mine; waits = f.waits; acts = f.acts }),
      ((let d = f.drawn in omega (arith, is)), refl),
    )

-- what a seat that draws is told
abbrev Told : Bool → Me Shared View → ℕ → Me Shared View → Type 0
Told b m n w = MatchBool b (w ≡ (ticketed m.0 n, m.1)) (w ≡ m)

-- the next ticket goes to this seat
draws_at : (g : Given) (by old : ℕ) (m : Me Shared View) → m.0.acts ≡ false → (s : State Shared View) (h : Keeps g s) → get_elem? s.views by ≡ some m.0 → (b : Bool) → (h.ticket == old) ≡ b
    → (w : View) × (a : Act Shared) × Valid s.homes m.1 a × Keeps g (record { words = either b (old + 1) h.ticket ∷ length h.log ∷ []; homes = homes_after s.homes m.1 a; views = slice_set s.views by w }) × Told b m h.ticket (w, carried_after m.1 a)
draws_at g by old m idle s h at true hit =
    let v : View = m.0 in
    let f = h.views by v at in
    let is : h.ticket ≡ old = eqb-true h.ticket old hit in
    let now : ℕ → ℕ = λ p. cond (p == h.ticket) by (h.owner p) in
    let same : (p : ℕ) → p < h.ticket → now p ≡ h.owner p = λ p lt. ap (λ b. cond b by (h.owner p)) (ne_eqb p h.ticket (λ e. omega arith)) in
    let mine : now h.ticket ≡ by = ap (λ b. cond b by (h.owner h.ticket)) (eq-eqb h.ticket h.ticket refl) in
    let grown = fits_grow g h.log h.ticket (old + 1) h.owner now by v h.room (omega arith) same f in
    let room : length h.log ≤ h.ticket = h.room in
    let w = ticketed v h.ticket in (
      w,
      keeps,
      tt,
      keeps_set g s h by v w ((old + 1) ∷ length h.log ∷ []) (old + 1) now refl (omega arith) same at (λ a. a)
          (record { given = f.given; seen = f.seen; told = f.told; drawn = grown.drawn; mine = grown.mine; waits = λ _. (mine, room, omega arith); acts = λ a. absurd (off (sym idle ∙ a)) }),
      refl,
    )
draws_at g by old m idle s h at false miss =
    let v : View = m.0 in
    (v, keeps, tt, keeps_set g s h by v v (h.ticket ∷ length h.log ∷ []) h.ticket h.owner refl (omega arith) (λ p lt. refl) at (λ a. a) (h.views by v at), refl)

pub draws : (g : Given) (slots by old : ℕ) (m : Me Shared View) → m.0.acts ≡ false → Allows (Keeps g) slots by m 0 (λ n. either (n == old) (old + 1) n) (Draws (step slots 0 old (old + 1) none) m)
draws g slots by old m idle s h homes at fits =
    let P : List ℕ → Type 0 = λ ws. (w : View) × (a : Act Shared) × Valid s.homes m.1 a × Keeps g (record { words = slice_set ws 0 (either (slice_index ws 0 == old) (old + 1) (slice_index ws 0)); homes = homes_after s.homes m.1 a; views = slice_set s.views by w }) × Draws (step slots 0 old (old + 1) none) m (slice_index ws 0) (w, carried_after m.1 a) in
    subst P (sym h.words) (draws_at g by old m idle s h at (h.ticket == old) refl)

-- what a seat that waits is told
abbrev Come : Bool → Me Shared View → ℕ → Me Shared View → Type 0
Come b m n w =
    MatchBool b
    ((log : List (Option ℕ)) × (length log ≡ n) × IsPrefix m.0.seen log × (w ≡ (served m.0 log, (0, shared m.0.code m.0.start log) ∷ m.1)))
    (w ≡ m)

-- the slot is at home where the ticket served belongs to a seat that does not act
at_home : (g : Given) (log : List (Option ℕ)) (ticket : ℕ) (owner : ℕ → ℕ) (s : State Shared View) (by : ℕ) (v : View) → get_elem? s.views by ≡ some v → v.acts ≡ false → owner (length log) ≡ by → HomeOrOut g log ticket owner s → s.homes ≡ some (shared g.code g.start log) ∷ []
at_home g log ticket owner s by v at idle mine (inl home) = home
at_home g log ticket owner s by v at idle mine (inr out) =
    let same : out.2.0 ≡ v = some-injective _ _ (sym out.2.1 ∙ ap (λ i. get_elem? s.views i) mine ∙ at) in
    absurd (off (sym idle ∙ ap (λ (x : View). x.acts) (sym same) ∙ out.2.2))

serves_at : (g : Given) (by : ℕ) (m : Me Shared View) → m.0.alive ≡ true → m.0.waits ≡ true → m.0.acts ≡ false → (s : State Shared View) (h : Keeps g s) → get_elem? s.views by ≡ some m.0 → (b : Bool) → (length h.log == m.0.ticket) ≡ b
    → (w : View) × (a : Act Shared) × Valid s.homes m.1 a × Keeps g (record { words = h.ticket ∷ length h.log ∷ []; homes = homes_after s.homes m.1 a; views = slice_set s.views by w }) × Come b m (length h.log) (w, carried_after m.1 a)
serves_at g by m alive waits idle s h at true come =
    let v : View = m.0 in
    let f = h.views by v at in
    let turn : length h.log ≡ v.ticket = eqb-true (length h.log) v.ticket come in
    let mine = f.waits waits in
    let owned : h.owner (length h.log) ≡ by = ap h.owner turn ∙ mine.0 in
    let home : s.homes ≡ some (shared g.code g.start h.log) ∷ [] = at_home g h.log h.ticket h.owner s by v at idle owned h.slot in
    let own = f.given alive in
    let y : Shared = shared v.code v.start h.log in
    let is : shared g.code g.start h.log ≡ y = λ i. shared (sym own.0 i) (sym own.1 i) h.log in
    let w = served v h.log in
    let lt : length h.log < h.ticket = (let l = mine.2 in omega arith) in (
      w,
      takes 0 y,
      ap (λ (hs : List (mathlib.Core.Option.Option Shared)). get_elem? hs 0) home ∙ ap (λ (k : Shared). some (some k)) is,
      record {
        log = h.log;
        ticket = h.ticket;
        owner = h.owner;
        words = refl;
        room = h.room;
        slot = inr (ap (λ (hs : List (mathlib.Core.Option.Option Shared)). slice_set hs 0 none) home, lt, (w, ap (λ i. get_elem? (set s.views by w) i) owned ∙ set_there s.views by v w at, refl));
        views = views_set (Fits g h.log h.ticket h.owner) s.views by w (λ j u apart e. h.views j u e)
            (record { given = f.given; seen = prefix_self h.log; told = f.told; drawn = f.drawn; mine = f.mine; waits = f.waits; acts = λ _. (waits, sym turn, refl) });
      },
      (h.log, refl, f.seen, refl),
    )
serves_at g by m alive waits idle s h at false not_yet =
    let v : View = m.0 in
    (v, keeps, tt, keeps_set g s h by v v (h.ticket ∷ length h.log ∷ []) h.ticket h.owner refl (omega arith) (λ p lt. refl) at (λ a. a) (h.views by v at), refl)

pub serves : (g : Given) (slots by : ℕ) (m : Me Shared View) (st : Step Shared) → m.0.alive ≡ true → m.0.waits ≡ true → m.0.acts ≡ false → Allows (Keeps g) slots by m 1 (λ n. n) (Serves st m)
serves g slots by m st alive waits idle s h homes at fits =
    let P : List ℕ → Type 0 = λ ws. (w : View) × (a : Act Shared) × Valid s.homes m.1 a × Keeps g (record { words = slice_set ws 1 (slice_index ws 1); homes = homes_after s.homes m.1 a; views = slice_set s.views by w }) × Serves st m (slice_index ws 1) (w, carried_after m.1 a) in
    subst P (sym h.words) (serves_at g by m alive waits idle s h at (length h.log == m.0.ticket) refl)

-- a place is finished by another seat
fits_after : (g : Given) (log : List (Option ℕ)) (x : Option ℕ) (ticket : ℕ) (owner : ℕ → ℕ) (by j : ℕ) (u : View) → owner (length log) ≡ by → j ≢ by → Fits g log ticket owner j u → Fits g (log ++ x ∷ []) ticket owner j u
fits_after g log x ticket owner by j u owned apart f = record {
  given = f.given;
  seen = prefix_more u.seen log (x ∷ []) f.seen;
  told = prefix_more u.told log (x ∷ []) f.told;
  drawn = f.drawn;
  mine = All-weaker (λ (e : ℕ × Option ℕ). (slice_get log e.0 ≡ Some e.1) × (owner e.0 ≡ j)) (λ (e : ℕ × Option ℕ). (slice_get (log ++ x ∷ []) e.0 ≡ Some e.1) × (owner e.0 ≡ j))
      (λ (e : ℕ × Option ℕ) h. (slice_get_front log (x ∷ []) e.0 e.1 h.0, h.1)) u.mine f.mine;
  waits = λ k. let w = f.waits k in
      let ne : length log ≢ u.ticket = λ e. apart (sym w.0 ∙ ap owner (sym e) ∙ owned) in
      (w.0, (let le : length log ≤ u.ticket = w.1 in omega (arith, length-append log (x ∷ []))), w.2);
  acts = λ k. let a = f.acts k in absurd (apart (sym (f.waits a.0).0 ∙ ap owner a.1 ∙ owned));
}

pub last_place-push : (xs : List (Option ℕ)) (x : Option ℕ) → last_place (xs ++ x ∷ []) ≡ x
last_place-push [] x = refl
last_place-push (y ∷ []) x = refl
last_place-push (y ∷ z ∷ xs) x = last_place-push (z ∷ xs) x

finishes_at : (g : Given) (by : ℕ) (v : View) (x : Option ℕ) → v.alive ≡ true → v.acts ≡ true → (s : State Shared View) (h : Keeps g s) → get_elem? s.views by ≡ some v → (new : ℕ) → new ≡ v.ticket + 1
    → Keeps g (record { words = slice_set s.words 1 new; homes = slice_set s.homes 0 (some (shared v.code v.start (v.seen ++ x ∷ []))); views = slice_set s.views by (finished v (v.seen ++ x ∷ [])) })
finishes_at g by v x alive acting s h at new next =
    let f = h.views by v at in
    let a = f.acts acting in
    let mine = f.waits a.0 in
    let all : v.seen ≡ h.log = a.2 in
    let owned : h.owner (length h.log) ≡ by = ap h.owner (sym a.1) ∙ mine.0 in
    let log : List (Option ℕ) = h.log ++ x ∷ [] in
    let more : length log ≡ length h.log + 1 = omega (arith, length-append h.log (x ∷ [])) in
    let own = f.given alive in
    let w = finished v (v.seen ++ x ∷ []) in
    let seen : v.seen ++ x ∷ [] ≡ log = ap (λ (l : List (Option ℕ)). l ++ x ∷ []) all in
    record {
      log = log;
      ticket = h.ticket;
      owner = h.owner;
      words = ap (λ (ws : List ℕ). slice_set ws 1 new) h.words ∙ ap (λ (n : ℕ). h.ticket ∷ n ∷ []) (next ∙ ap (λ n. n + 1) a.1 ∙ sym more);
      room = (let lt = mine.2 in let is = a.1 in omega arith);
      slot = inl (home_again s.homes (shared v.code v.start (v.seen ++ x ∷ [])) (either_home h.slot) ∙ (λ i. some (shared (own.0 i) (own.1 i) (seen i)) ∷ []));
      views = views_set (Fits g log h.ticket h.owner) s.views by w (λ j u apart e. fits_after g h.log x h.ticket h.owner by j u owned apart (h.views j u e))
          (record {
            given = f.given;
            seen = subst (λ (l : List (Option ℕ)). IsPrefix (v.seen ++ x ∷ []) l) seen (prefix_self (v.seen ++ x ∷ []));
            told = prefix_more v.told h.log (x ∷ []) f.told;
            drawn = f.drawn;
            mine = All-push (λ (e : ℕ × Option ℕ). (slice_get log e.0 ≡ Some e.1) × (h.owner e.0 ≡ by)) v.mine (v.ticket, last_place (v.seen ++ x ∷ []))
                (All-weaker (λ (e : ℕ × Option ℕ). (slice_get h.log e.0 ≡ Some e.1) × (h.owner e.0 ≡ by)) (λ (e : ℕ × Option ℕ). (slice_get log e.0 ≡ Some e.1) × (h.owner e.0 ≡ by)) (λ (e : ℕ × Option ℕ) t. (slice_get_front h.log (x ∷ []) e.0 e.1 t.0, t.1)) v.mine f.mine)
                (ap (λ k. slice_get log k) a.1 ∙ slice_get_end h.log x ∙ ap Some (sym (last_place-push v.seen x)), mine.0);
            waits = λ k. absurd (off k);
            acts = λ k. absurd (off k);
          });
    }
  where
    One : List (mathlib.Core.Option.Option Shared) → Type 0
    One hs = (hs ≡ none ∷ []) ⊎ ((k : Shared) × (hs ≡ some k ∷ []))

    either_home : HomeOrOut g h.log h.ticket h.owner s → One s.homes
    either_home (inl home) = inr (shared g.code g.start h.log, home)
    either_home (inr out) = inl out.0

    home_again : (hs : List (mathlib.Core.Option.Option Shared)) (k : Shared) → One hs → slice_set hs 0 (some k) ≡ some k ∷ []
    home_again hs k (inl e) = ap (λ (l : List (mathlib.Core.Option.Option Shared)). slice_set l 0 (some k)) e
    home_again hs k (inr e) = ap (λ (l : List (mathlib.Core.Option.Option Shared)). slice_set l 0 (some k)) e.1

-- the seat that acts gives the slot back with one place more
pub finishes : (g : Given) (slots by : ℕ) (v : View) (y : Shared) (x : Option ℕ) (new : ℕ) (st : Step Shared) → v.alive ≡ true → v.acts ≡ true → y ≡ shared v.code v.start (v.seen ++ x ∷ []) → new ≡ v.ticket + 1
    → Allows (Keeps g) slots by (v, (0, y) ∷ []) 1 (λ _. new) (λ _. Finishes st (v, (0, y) ∷ []) new)
finishes g slots by v y x new st alive acting is next s h homes at fits =
    let P : Shared → Type 0 = λ k. (w : View) × (a : Act Shared) × Valid s.homes ((0, k) ∷ []) a × Keeps g (record { words = slice_set s.words 1 new; homes = homes_after s.homes ((0, k) ∷ []) a; views = slice_set s.views by w }) × Finishes st (v, (0, k) ∷ []) new (w, carried_after ((0, k) ∷ []) a) in
    subst P (sym is) (finished v (v.seen ++ x ∷ []), gives, tt, finishes_at g by v x alive acting s h at new next, refl)

-- the table at the start
pub begins : (g : Given) → Keeps g (record { words = 0 ∷ 0 ∷ []; homes = some (shared g.code g.start []) ∷ []; views = newcomer g ∷ [] })
begins g = record { log = []; ticket = 0; owner = λ p. 0; words = refl; room = omega arith; slot = inl refl; views = one }
  where
    one : (by : ℕ) (v : View) → get_elem? (newcomer g ∷ []) by ≡ some v → Fits g [] 0 (λ p. 0) by v
    one zero v e = subst (Fits g [] 0 (λ p. 0) 0) (some-injective _ _ e) (record { given = λ _. (refl, refl); seen = prefix_self []; told = prefix_self []; drawn = omega arith; mine = All-nil (λ (e : ℕ × Option ℕ). (slice_get [] e.0 ≡ Some e.1) × (0 ≡ 0)); waits = λ k. absurd (off k); acts = λ k. absurd (off k) })
    one (suc by) v e = absurd (some-ne-none v (sym e))

-- a seat is split: the new one has a copy of what was seen
pub forks : (g : Given) (by : ℕ) (v : View) → Splits (Keeps g) by v v (fresh v)
forks g by v s h at = record {
  log = h.log;
  ticket = h.ticket;
  owner = h.owner;
  words = h.words;
  room = h.room;
  slot = longer h.slot;
  views = λ j u e. ⊎_elim
      (λ was. h.views j u (subst (λ (l : List View). get_elem? l j ≡ some u) (set_again s.views by v at) was))
      (λ (same : fresh v ≡ u). subst (Fits g h.log h.ticket h.owner j) same (new j))
      (at_snoc (set s.views by v) (fresh v) u j e);
}
  where
    f : Fits g h.log h.ticket h.owner by v
    f = h.views by v at

    new : (j : ℕ) → Fits g h.log h.ticket h.owner j (fresh v)
    new j = record { given = f.given; seen = f.seen; told = f.told; drawn = f.drawn; mine = All-nil (λ (e : ℕ × Option ℕ). (slice_get h.log e.0 ≡ Some e.1) × (h.owner e.0 ≡ j)); waits = λ k. absurd (off k); acts = λ k. absurd (off k) }

    longer : HomeOrOut g h.log h.ticket h.owner s → HomeOrOut g h.log h.ticket h.owner (record { words = s.words; homes = s.homes; views = set s.views by v ++ fresh v ∷ [] })
    longer (inl home) = inl home
    longer (inr out) = inr (out.0, out.1, (out.2.0, at_longer (set s.views by v) (fresh v ∷ []) (h.owner (length h.log)) out.2.0 (subst (λ (l : List View). get_elem? l (h.owner (length h.log)) ≡ some out.2.0) (sym (set_again s.views by v at)) out.2.1), out.2.2))

longer_front : (v : View) (log : List (Option ℕ)) → IsPrefix v.seen log → IsPrefix v.told log → (b : Bool) → nat_lt (length v.seen) (length v.told) ≡ b
    → let l = cond b v.told v.seen in IsPrefix l log × IsPrefix v.seen l × IsPrefix v.told l
longer_front v log p q true less = let lt = ltb-true (length v.seen) (length v.told) less in (q, prefix_shorter v.seen v.told log p q (omega arith), prefix_self v.told)
longer_front v log p q false more = (p, prefix_self v.seen, prefix_shorter v.told v.seen log q p (not_less more))
  where
    not_less : nat_lt (length v.seen) (length v.told) ≡ false → length v.told ≤ length v.seen
    not_less e = grind (arith, nat_tests, e)

pub learns : (g : Given) (slots by : ℕ) (m : Me Shared View) (st : Step Shared) → m.0.acts ≡ false → Allows (Keeps g) slots by m 0 (λ n. n) (Learns st m)
learns g slots by m st idle s h homes at fits =
    let v : View = m.0 in
    let f = h.views by v at in
    let t = longer_front v h.log f.seen f.told (nat_lt (length v.seen) (length v.told)) refl in
    let words : slice_set s.words 0 (slice_index s.words 0) ≡ h.ticket ∷ length h.log ∷ [] = ap (λ (ws : List ℕ). slice_set ws 0 (slice_index ws 0)) h.words in
    let w = learned v in (
      w,
      keeps,
      tt,
      keeps_set g s h by v w (slice_set s.words 0 (slice_index s.words 0)) h.ticket h.owner words (omega arith) (λ p lt. refl) at (λ a. a)
          (record { given = f.given; seen = t.0; told = (h.log, refl); drawn = f.drawn; mine = f.mine; waits = f.waits; acts = λ a. absurd (off (sym idle ∙ a)) }),
      (refl, t.1, t.2),
    )

all_placed : (P : ℕ × Option ℕ → Type 0) (y : ℕ × Option ℕ) (xs : List (ℕ × Option ℕ)) → P y → All P xs → All P (placed y xs)
all_placed P y [] here all = All-cons P y [] here all
all_placed P y (x ∷ xs) here all = at (nat_lt y.0 x.0) (all_placed P y xs here (All-tail P x xs all))
  where
    at : (b : Bool) → All P (placed y xs) → All P (cond b (y ∷ x ∷ xs) (x ∷ placed y xs))
    at true rest = All-cons P y (x ∷ xs) here all
    at false rest = All-cons P x (placed y xs) (All-head P x xs all) rest

all_merged : (P : ℕ × Option ℕ → Type 0) (xs ys : List (ℕ × Option ℕ)) → All P xs → All P ys → All P (merged xs ys)
all_merged P xs [] all more = all
all_merged P xs (y ∷ ys) all more = all_merged P (placed y xs) ys (all_placed P y xs (All-head P y ys more) all) (All-tail P y ys more)

-- a seat takes another's calls and places, and owns them from now on
pub merges : (g : Given) (by : ℕ) (v : View) (other : ℕ) (w : View) → v.alive ≡ true → v.waits ≡ false → v.acts ≡ false → w.waits ≡ false → w.acts ≡ false → Joins (Keeps g) by v other w (joined v w) nobody
merges g by v other w alive waits idle waits' idle' s h at apart there =
    let f = h.views by v at in
    let there' : get_elem? s.views other ≡ some w = sym (set_else s.views by other (joined v w) apart) ∙ there in
    let f' = h.views other w there' in
    let now : ℕ → ℕ = λ p. cond (h.owner p == other) by (h.owner p) in
    let kept_by : (p j : ℕ) → j ≢ other → h.owner p ≡ j → now p ≡ j = λ p j ne e. ap (λ b. cond b by (h.owner p)) (ne_eqb (h.owner p) other (λ k. ne (sym e ∙ k))) ∙ e in
    let moved : (p : ℕ) → h.owner p ≡ other → now p ≡ by = λ p e. ap (λ b. cond b by (h.owner p)) (eq-eqb (h.owner p) other e) in
    record {
      log = h.log;
      ticket = h.ticket;
      owner = now;
      words = h.words;
      room = h.room;
      slot = slot_merge h.slot;
      views = views_set (Fits g h.log h.ticket now) (set s.views by (joined v w)) other nobody
          (λ j u ne e. views_set (λ i x. i ≢ other → Fits g h.log h.ticket now i x) s.views by (joined v w)
          (λ i x _ e' ne'. let k = h.views i x e' in record {
            given = k.given;
            seen = k.seen;
            told = k.told;
            drawn = k.drawn;
            mine = All-weaker (λ (z : ℕ × Option ℕ). (slice_get h.log z.0 ≡ Some z.1) × (h.owner z.0 ≡ i)) (λ (z : ℕ × Option ℕ). (slice_get h.log z.0 ≡ Some z.1) × (now z.0 ≡ i)) (λ (z : ℕ × Option ℕ) t. (t.0, kept_by z.0 i ne' t.1)) x.mine k.mine;
            waits = λ b. let q = k.waits b in (kept_by x.ticket i ne' q.0, q.1, q.2);
            acts = k.acts;
          })
          (λ ne'. record {
            given = f.given;
            seen = f.seen;
            told = f'.seen;
            drawn = both_max f.drawn f'.drawn;
            mine = all_merged (λ (z : ℕ × Option ℕ). (slice_get h.log z.0 ≡ Some z.1) × (now z.0 ≡ by)) v.mine w.mine
                (All-weaker (λ (z : ℕ × Option ℕ). (slice_get h.log z.0 ≡ Some z.1) × (h.owner z.0 ≡ by)) (λ (z : ℕ × Option ℕ). (slice_get h.log z.0 ≡ Some z.1) × (now z.0 ≡ by)) (λ (z : ℕ × Option ℕ) t. (t.0, kept_by z.0 by ne' t.1)) v.mine f.mine)
                (All-weaker (λ (z : ℕ × Option ℕ). (slice_get h.log z.0 ≡ Some z.1) × (h.owner z.0 ≡ other)) (λ (z : ℕ × Option ℕ). (slice_get h.log z.0 ≡ Some z.1) × (now z.0 ≡ by)) (λ (z : ℕ × Option ℕ) t. (t.0, moved z.0 t.1)) w.mine f'.mine);
            waits = λ b. absurd (off (sym waits ∙ b));
            acts = λ b. absurd (off (sym idle ∙ b));
          })
          j u e ne)
          (record { given = λ b. absurd (off b); seen = (h.log, refl); told = (h.log, refl); drawn = omega arith; mine = All-nil (λ (z : ℕ × Option ℕ). (slice_get h.log z.0 ≡ Some z.1) × (now z.0 ≡ other)); waits = λ b. absurd (off b); acts = λ b. absurd (off b) });
    }
  where
    both_max : v.drawn ≤ h.ticket → w.drawn ≤ h.ticket → max v.drawn w.drawn ≤ h.ticket
    both_max a b = omega arith

    slot_merge : HomeOrOut g h.log h.ticket h.owner s → HomeOrOut g h.log h.ticket (λ p. cond (h.owner p == other) by (h.owner p)) (record { words = s.words; homes = s.homes; views = set (set s.views by (joined v w)) other nobody })
    slot_merge (inl home) = inl home
    slot_merge (inr out) =
        let k : ℕ = h.owner (length h.log) in
        let u : View = out.2.0 in
        let ne : k ≢ other = λ e. off (sym idle' ∙ ap (λ (x : View). x.acts) (some-injective _ _ (sym (sym (set_else s.views by other (joined v w) apart) ∙ there) ∙ ap (λ i. get_elem? s.views i) (sym e) ∙ out.2.1)) ∙ out.2.2) in
        let ne' : k ≢ by = λ e. off (sym idle ∙ ap (λ (x : View). x.acts) (some-injective _ _ (sym at ∙ ap (λ i. get_elem? s.views i) (sym e) ∙ out.2.1)) ∙ out.2.2) in
        let is : cond (k == other) by k ≡ k = ap (λ b. cond b by k) (ne_eqb k other ne) in
        inr (out.0, out.1, (u, ap (λ i. get_elem? (set (set s.views by (joined v w)) other nobody) i) is ∙ set_else (set s.views by (joined v w)) other k nobody ne ∙ set_else s.views by k (joined v w) ne' ∙ out.2.1, out.2.2))
