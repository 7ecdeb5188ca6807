-- A call of a seat, put together from its steps.
use Rattle.std.proofs.Common.{◌≡◌, ℕ, ◌+◌, ◌<◌, arith, length-append, List, [], ◌∷◌, ◌++◌, length, Option, Ok, sym, ap, ◌∙◌, subst}
use mathlib.Core.List.{IsPrefix}
use Rattle.atomic_table.specs.Table.{Me}
use Rattle.atomic_table.specs.Seated.{TableId}
use Rattle.seat_host.specs.declared.law.View.{View}
use Rattle.seat_host.specs.declared.answer.TurnAnswer.{TurnAnswer}
use Rattle.seat_host.specs.declared.answer.TurnAnswer.TheVariants.{Worn, Stale, Full, NotReady, NoMemory, Took}
use Rattle.seat_host.specs.Places.{Shared, shared}
use Rattle.seat_host.specs.Answers.{holding, Comes}
use Rattle.seat_host.specs.Law.{looked, ticketed, served, finished, places_in}
use Rattle.seat_host.specs.Seats.{Drew, Came, Sitting, sitting, NextPlace, TookTurn}
use Rattle.seat_host.proofs.Moves.{last_place-push}

next_place : (id id' : TableId) (m m1 m2 m3 m4 : Me Shared View) (n seen thread : ℕ) (a : TurnAnswer) → seen ≡ length m.0.seen → Drew m (Ok n) m1 → Came m1 m2 → Comes (shared m2.0.code m2.0.start m2.0.seen) seen thread a
    → m3 ≡ (m2.0, (0, shared m2.0.code m2.0.start (m2.0.seen ++ holding thread a ∷ [])) ∷ []) → m4 ≡ (finished m3.0 (places_in m3.1), []) → NextPlace (sitting id m.0) thread a (sitting id' m4.0)
next_place id id' m m1 m2 m3 m4 n seen thread a had drew came comes e3 e4 =
    let x = holding thread a in
    let log = came.0 in
    let e1 = drew.0 in
    let v2 : m2.0 ≡ served (ticketed (looked m.0 n) n) log = ap (λ (u : Me Shared View). u.0) came.3 ∙ ap (λ (u : Me Shared View). served u.0 log) e1 in
    let w : m4.0 ≡ finished (served (ticketed (looked m.0 n) n) log) (log ++ x ∷ []) =
    ap (λ (u : Me Shared View). u.0) e4 ∙ ap (λ (u : Me Shared View). finished u.0 (places_in u.1)) e3 ∙ ap (λ (u : View). finished u (u.seen ++ x ∷ [])) v2 in
    let len : length log ≡ n = came.1 ∙ ap (λ (u : Me Shared View). u.0.ticket) e1 in (
      log,
      subst (λ (u : Me Shared View). IsPrefix u.0.seen log) e1 came.2,
      subst (λ (k : ℕ). Comes (shared m.0.code m.0.start log) k thread a) had (subst (λ (u : View). Comes (shared u.code u.start u.seen) seen thread a) v2 comes),
      (let lt = drew.1 in omega arith),
      ap (λ (u : View). u.seen) w,
      ap (λ (u : View). u.mine) w ∙ (λ i. m.0.mine ++ (sym len i, last_place-push log x i) ∷ []),
      ap (λ (u : View). u.drawn) w ∙ sym len,
    )

pub took_turn : (id id' : TableId) (m m1 m2 m3 m4 : Me Shared View) (n seen thread : ℕ) (a : TurnAnswer) → seen ≡ length m.0.seen → Drew m (Ok n) m1 → Came m1 m2 → Comes (shared m2.0.code m2.0.start m2.0.seen) seen thread a
    → m3 ≡ (m2.0, (0, shared m2.0.code m2.0.start (m2.0.seen ++ holding thread a ∷ [])) ∷ []) → m4 ≡ (finished m3.0 (places_in m3.1), []) → TookTurn (sitting id m.0) thread a (sitting id' m4.0)
took_turn id id' m m1 m2 m3 m4 n seen thread (Worn d) had drew came comes e3 e4 = absurd comes
took_turn id id' m m1 m2 m3 m4 n seen thread (Stale p l) had drew came comes e3 e4 = next_place id id' m m1 m2 m3 m4 n seen thread (Stale p l) had drew came comes e3 e4
took_turn id id' m m1 m2 m3 m4 n seen thread (Full p) had drew came comes e3 e4 = next_place id id' m m1 m2 m3 m4 n seen thread (Full p) had drew came comes e3 e4
took_turn id id' m m1 m2 m3 m4 n seen thread (NotReady p) had drew came comes e3 e4 = next_place id id' m m1 m2 m3 m4 n seen thread (NotReady p) had drew came comes e3 e4
took_turn id id' m m1 m2 m3 m4 n seen thread (NoMemory p) had drew came comes e3 e4 = next_place id id' m m1 m2 m3 m4 n seen thread (NoMemory p) had drew came comes e3 e4
took_turn id id' m m1 m2 m3 m4 n seen thread (Took p e) had drew came comes e3 e4 = next_place id id' m m1 m2 m3 m4 n seen thread (Took p e) had drew came comes e3 e4

next_seen : (v w : Sitting) (thread p : ℕ) (a : TurnAnswer) → ((before : List (Option ℕ)) → Comes (shared v.of.code v.of.start before) (length v.seen) thread a → p ≡ length before) → NextPlace v thread a w → (p + 1 ≡ length w.seen) × (p + 1 < 18446744073709551616)
next_seen v w thread p a place n =
    let before = n.0 in
    let is : p ≡ length before = place before n.2 in
    let len : length w.seen ≡ length before + 1 = ap length n.4 ∙ length-append before (holding thread a ∷ []) in
    let lt = n.3 in (omega arith, omega arith)
