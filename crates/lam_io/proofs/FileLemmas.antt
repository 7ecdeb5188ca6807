-- laws of a list of files under their names
use Rattle.std.proofs.Common.{◌≡◌, ◌≢◌, ℕ, ◌+◌, ◌<◌, ◌≤◌, true, false, not, cond, List, [], ◌∷◌, ◌++◌, length, get_or, set, map, Option, Some, refl, sym, ap, ◌∙◌, suc, arith, inl, inr}
use Rattle.std.specs.Str.{bytes_eq}
use Rattle.std.specs.List.{prefix_len}
use Rattle.std.specs.Bool.{Decides}
use Rattle.std.proofs.lemmas.Slice.Eq.{bytes_eq-Decides}
use Rattle.std.proofs.lemmas.Bool.{cases_Bool}
use Rattle.lam_io.specs.Outside.{Files}
use Rattle.lam_io.specs.Memory.{file_in as file_of}

differ : (a name other : List ℕ) → bytes_eq a name ≡ true → other ≢ name → bytes_eq a other ≡ false
differ a name other same apart =
    let tells : Decides (bytes_eq a name) (a ≡ name) = bytes_eq-Decides a name in
    let tells_other : Decides (bytes_eq a other) (a ≡ other) = bytes_eq-Decides a other in
    elim (cases_Bool (bytes_eq a other)) [ inl yes_it_is ↦ absurd (apart (sym (tells_other.0 yes_it_is) ∙ tells.0 same)) | inr it_is_not ↦ it_is_not ]

abbrev file_in : {N B : Type 0} → (N → List ℕ) → (B → List ℕ) → List (N × B) → Files
file_in name_of bytes_of ps name = file_of (map (λ p. (name_of p.0, bytes_of p.1)) ps) name

module _ {N B : Type 0} (name_of : N → List ℕ) (bytes_of : B → List ℕ) (name : List ℕ) where
  abbrev place : List (N × B) → ℕ
  place [] = 0
  place (p ∷ ps) = cond (bytes_eq (name_of p.0) name) 0 (suc (place ps))

  prefix_len-place : (ps : List (N × B)) → prefix_len (λ p. not (bytes_eq (name_of p.0) name)) ps ≡ place ps
  prefix_len-place [] = refl
  prefix_len-place (p ∷ ps) = elim (bytes_eq (name_of p.0) name) as (λ b. cond (not b) (1 + prefix_len (λ p. not (bytes_eq (name_of p.0) name)) ps) 0 ≡ cond b 0 (suc (place ps))) [ true ↦ refl | false ↦ omega (arith, prefix_len-place ps) ]

  set-same : (ps : List (N × B)) (q d : N × B) → place ps < length ps → q.0 ≡ (get_or ps (place ps) d).0 → file_in name_of bytes_of (set ps (place ps) q) name ≡ Some (bytes_of q.1)
  set-same [] q d = λ less same. absurd (omega arith)
  set-same (p ∷ ps) q d =
      elim (bytes_eq (name_of p.0) name) as (λ b. bytes_eq (name_of p.0) name ≡ b → cond b 0 (suc (place ps)) < length (p ∷ ps) → q.0 ≡ (get_or (p ∷ ps) (cond b 0 (suc (place ps))) d).0 → file_in name_of bytes_of (set (p ∷ ps) (cond b 0 (suc (place ps))) q) name ≡ Some (bytes_of q.1)) [
        | true ↦ λ e less same. rw (same, e) refl
        | false ↦ λ e less same. rw e (set-same ps q d (omega arith) same)
      ] refl

  set-other : (other : List ℕ) → other ≢ name → (ps : List (N × B)) (q d : N × B) → place ps < length ps → q.0 ≡ (get_or ps (place ps) d).0 → file_in name_of bytes_of (set ps (place ps) q) other ≡ file_in name_of bytes_of ps other
  set-other other apart [] q d = λ less same. absurd (omega arith)
  set-other other apart (p ∷ ps) q d =
      elim (bytes_eq (name_of p.0) name) as (λ b. bytes_eq (name_of p.0) name ≡ b → cond b 0 (suc (place ps)) < length (p ∷ ps) → q.0 ≡ (get_or (p ∷ ps) (cond b 0 (suc (place ps))) d).0 → file_in name_of bytes_of (set (p ∷ ps) (cond b 0 (suc (place ps))) q) other ≡ file_in name_of bytes_of (p ∷ ps) other) [
        | true ↦ λ e less same. let off : bytes_eq (name_of p.0) other ≡ false = differ (name_of p.0) name other e apart in rw (same, off) refl
        | false ↦ λ e less same. ap (λ (r : Option (List ℕ)). cond (bytes_eq (name_of p.0) other) (Some (bytes_of p.1)) r) (set-other other apart ps q d (omega arith) same)
      ] refl

  push-same : (ps : List (N × B)) (q : N × B) → length ps ≤ place ps → name_of q.0 ≡ name → file_in name_of bytes_of (ps ++ q ∷ []) name ≡ Some (bytes_of q.1)
  push-same [] q = λ past same. rw ((bytes_eq-Decides (name_of q.0) name).1 same) refl
  push-same (p ∷ ps) q =
      elim (bytes_eq (name_of p.0) name) as (λ b. bytes_eq (name_of p.0) name ≡ b → length (p ∷ ps) ≤ cond b 0 (suc (place ps)) → name_of q.0 ≡ name → file_in name_of bytes_of ((p ∷ ps) ++ q ∷ []) name ≡ Some (bytes_of q.1)) [
        | true ↦ λ e past same. absurd (omega arith)
        | false ↦ λ e past same. rw e (push-same ps q (omega arith) same)
      ] refl

  push-other : (other : List ℕ) → other ≢ name → (ps : List (N × B)) (q : N × B) → name_of q.0 ≡ name → file_in name_of bytes_of (ps ++ q ∷ []) other ≡ file_in name_of bytes_of ps other
  push-other other apart [] q = λ same. rw (differ (name_of q.0) name other ((bytes_eq-Decides (name_of q.0) name).1 same) apart) refl
  push-other other apart (p ∷ ps) q = λ same. ap (λ (r : Option (List ℕ)). cond (bytes_eq (name_of p.0) other) (Some (bytes_of p.1)) r) (push-other other apart ps q same)

  -- a file is replaced
  pub replaced : (ps : List (N × B)) (at : ℕ) (q d : N × B) → at ≡ prefix_len (λ p. not (bytes_eq (name_of p.0) name)) ps → at < length ps → q.0 ≡ (get_or ps at d).0 → file_in name_of bytes_of (set ps at q) name ≡ Some (bytes_of q.1)
  replaced ps at q d is less same = let at_is : at ≡ place ps = is ∙ prefix_len-place ps in rw at_is (set-same ps q d (omega arith) (rw at_is at same))

  pub replaced_others : (other : List ℕ) → other ≢ name → (ps : List (N × B)) (at : ℕ) (q d : N × B) → at ≡ prefix_len (λ p. not (bytes_eq (name_of p.0) name)) ps → at < length ps → q.0 ≡ (get_or ps at d).0 → file_in name_of bytes_of (set ps at q) other ≡ file_in name_of bytes_of ps other
  replaced_others other apart ps at q d is less same = let at_is : at ≡ place ps = is ∙ prefix_len-place ps in rw at_is (set-other other apart ps q d (omega arith) (rw at_is at same))

  -- a file is added
  pub added : (ps new : List (N × B)) (at : ℕ) (q : N × B) → at ≡ prefix_len (λ p. not (bytes_eq (name_of p.0) name)) ps → length ps ≤ at → name_of q.0 ≡ name → new ≡ ps ++ q ∷ [] → file_in name_of bytes_of new name ≡ Some (bytes_of q.1)
  added ps new at q is past same made = let at_is : at ≡ place ps = is ∙ prefix_len-place ps in rw made (push-same ps q (omega arith) same)

  pub added_others : (other : List ℕ) → other ≢ name → (ps new : List (N × B)) (q : N × B) → name_of q.0 ≡ name → new ≡ ps ++ q ∷ [] → file_in name_of bytes_of new other ≡ file_in name_of bytes_of ps other
  added_others other apart ps new q same made = rw made (push-other other apart ps q same)
