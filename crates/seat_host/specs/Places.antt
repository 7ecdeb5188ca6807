-- Places: each is one ticket's use, and holds the thread of a turn or nothing.
use Rattle.std.specs.Prelude.{ℕ, zero, suc, ◌+◌, ◌==◌, List, [], ◌∷◌, cond, length, Option, Some, None, refl}
use Rattle.std.specs.Coded.{Coded, code_by, coded×, coded_ℕ, coded_list, coded_option}
use Rattle.lam_bytecode.specs.Codes.{CodeTree, coded_code}
use Rattle.lam_machine_terms.specs.Worlds.{World}
use Rattle.lam_machine_terms.specs.Turns.{replay}
use Rattle.lam_machine_world.specs.Coding.{coded_world}

-- the turns that places hold, in order
abbrev pub turns_in : List (Option ℕ) → List ℕ
turns_in [] = []
turns_in (Some t ∷ xs) = t ∷ turns_in xs
turns_in (None ∷ xs) = turns_in xs

-- the world at the place that comes after these
abbrev pub world_at : CodeTree → World → List (Option ℕ) → World
world_at code start places = replay code (turns_in places) start

-- what callers share: a run of a code from a start, by what each place holds
pub record Shared : Type 0 where
  pub code : CodeTree
  pub start : World
  pub places : List (Option ℕ)

abbrev pub shared : CodeTree → World → List (Option ℕ) → Shared
shared code start places = record { code = code; start = start; places = places }

-- how it is stored, for what holds it
abbrev pub coded_shared : Coded Shared
coded_shared =
    code_by (CodeTree × (World × List (Option ℕ))) (coded× coded_code (coded× coded_world (coded_list (coded_option coded_ℕ))))
    (λ s. (s.code, (s.start, s.places))) (λ p. record { code = p.0; start = p.1.0; places = p.1.1 }) (λ _. refl)

-- the last place that holds a thread, of places that are counted from k
abbrev pub later : Option ℕ → Option ℕ → Option ℕ
later (Some p) found = Some p
later None found = found

abbrev pub if_holds : ℕ → ℕ → Option ℕ → Option ℕ
if_holds t k None = None
if_holds t k (Some u) = cond (u == t) (Some k) None

abbrev pub last_from : ℕ → ℕ → List (Option ℕ) → Option ℕ
last_from t k [] = None
last_from t k (x ∷ xs) = later (last_from t (k + 1) xs) (if_holds t k x)

abbrev pub last_of : ℕ → List (Option ℕ) → Option ℕ
last_of t places = last_from t 0 places

-- n places from k on, of which those listed hold these turns
abbrev pub spread : ℕ → ℕ → List ℕ → List ℕ → List (Option ℕ)
spread k zero held turns = []
spread k (suc n) [] turns = None ∷ spread (k + 1) n [] turns
spread k (suc n) (p ∷ ps) [] = None ∷ spread (k + 1) n (p ∷ ps) []
spread k (suc n) (p ∷ ps) (t ∷ ts) = cond (p == k) (Some t ∷ spread (k + 1) n ps ts) (None ∷ spread (k + 1) n (p ∷ ps) (t ∷ ts))
