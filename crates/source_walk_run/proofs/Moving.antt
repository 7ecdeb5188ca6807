-- What the threads of moments did, with one moment more.
use Rattle.std.proofs.Common.{◌≡◌, ℕ, ◌+◌, ◌≤◌, Bool, false, cond, List, [], ◌∷◌, ◌++◌, length, map, refl, ap, ◌∙◌, append-nil, length-append, arith}
use Rattle.std.specs.Prelude.{nat_eq, filter}
use Rattle.std.specs.Option.{option_to_list}
use Rattle.std.proofs.lemmas.List.{map-append}
use Rattle.std.proofs.lemmas.List.Elements.{filter-append}
use Rattle.std.proofs.lemmas.Bool.{eq-eqb, ne_eqb}
use Rattle.lam_asks.specs.declared.answer.What.{What}
use Rattle.lam_machine_terms.specs.Turns.{Moment}
use Rattle.lam_machine_laws.specs.Own.{done_by}
use Rattle.source_walk_meets.specs.Births.{Birth, birth_of, births, AreOfThreads}
use Rattle.source_walk_meets.proofs.Runs.{births_append}

abbrev whats_of : List Moment → List What
whats_of ms = map (λ (m : Moment). m.event.what) ms

abbrev own : ℕ → Moment → Bool
own u m = nat_eq m.event.thread u

abbrev pub born_in : Moment → List Birth
born_in m = option_to_list (birth_of m.event.what)

-- ---- what a thread did

done_more : (u : ℕ) (ms : List Moment) (m : Moment) → done_by u (ms ++ m ∷ []) ≡ done_by u ms ++ done_by u (m ∷ [])
done_more u ms m =
    ap whats_of (filter-append (own u) ms (m ∷ [])) ∙ map-append (λ (m : Moment). m.event.what) (filter (own u) ms) (filter (own u) (m ∷ []))

pub done_own : (u : ℕ) (ms : List Moment) (m : Moment) → m.event.thread ≡ u → done_by u (ms ++ m ∷ []) ≡ done_by u ms ++ m.event.what ∷ []
done_own u ms m e = done_more u ms m ∙ ap (λ b. done_by u ms ++ whats_of (cond b (m ∷ []) [])) (eq-eqb m.event.thread u e)

pub done_other : (u : ℕ) (ms : List Moment) (m : Moment) → (m.event.thread ≡ u → ⊥) → done_by u (ms ++ m ∷ []) ≡ done_by u ms
done_other u ms m ne = done_more u ms m ∙ ap (λ b. done_by u ms ++ whats_of (cond b (m ∷ []) [])) (ne_eqb m.event.thread u ne) ∙ append-nil (done_by u ms)

-- ---- threads that are there

pub births_now : (ms : List Moment) (m : Moment) → births (ms ++ m ∷ []) ≡ births ms ++ born_in m
births_now ms m = births_append ms (m ∷ []) ∙ ap (λ l. births ms ++ l) (append-nil (born_in m))

births_more : (m : Moment) (ms : List Moment) (n : ℕ) → n + length (births (m ∷ ms)) ≡ (n + length (born_in m)) + length (births ms)
births_more m ms n = let long = length-append (born_in m) (births ms) in omega (arith, long)

pub front_of : (n : ℕ) (ms : List Moment) (m : Moment) → AreOfThreads n (ms ++ m ∷ []) → AreOfThreads n ms
front_of n [] m h = tt
front_of n (x ∷ ms) m h = (h.0, front_of (n + length (born_in x)) ms m h.1)

-- one that is not there has done nothing
pub none_done : (n u : ℕ) (ms : List Moment) → AreOfThreads n ms → n + length (births ms) ≤ u → done_by u ms ≡ []
none_done n u [] h le = refl
none_done n u (m ∷ ms) h le =
    let many = births_more m ms n in
    let none : own u m ≡ false = ne_eqb m.event.thread u (λ e. absurd (omega (arith, h.0, le, many, e))) in
    ap (λ b. whats_of (cond b (m ∷ filter (own u) ms) (filter (own u) ms))) none ∙ none_done (n + length (born_in m)) u ms h.1 (omega (arith, le, many))
