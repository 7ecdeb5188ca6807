-- What stands at each address of a unit, found in rounds, for any kind of description D.
use Rattle.std.specs.Prelude.{◌≡◌, ℕ, zero, suc, ◌+◌, ◌*◌, ◌<◌, ◌≤◌, ◌⊎◌, List, [], ◌∷◌, replicate, Option, Some, None, length, slice_get, slice_set}

-- what stands at each address, where something does
abbrev pub Table : Type 0 → Type 0
Table D = List (Option D)

-- a table, or the address at which two paths may not meet or an operation finds too little
pub data Found (D : Type 0) : Type 0 where
  Holds : (table : Table D) → Found D
  Broke : (at : ℕ) → Found D

abbrev pub and_then : {D : Type 0} → Found D → (Table D → Found D) → Found D
and_then (Holds t) go = go t
and_then (Broke a) go = Broke a

-- P of the table, and B where there is none
abbrev pub OnFound : {D : Type 0} → Type 0 → Found D → (Table D → Type 0) → Type 0
OnFound B (Holds t) P = P t
OnFound B (Broke a) P = B

-- nothing stands at any of so many addresses
abbrev pub blank : (D : Type 0) → ℕ → Table D
blank D size = replicate size None

-- descriptions with the addresses that they go to
abbrev pub Sent : Type 0 → Type 0
Sent D = List (ℕ × D)

-- meet: what two paths leave where they meet, if they may
-- passes: what an address with a description sends on, unless its operation finds too little
module _ (D : Type 0) (meet : D → D → Option D) (passes : ℕ → D → Option (Sent D)) where
  abbrev pub met : Option D → D → Option D
  met None e = Some e
  met (Some d) e = meet d e

  abbrev pub placed : Table D → ℕ → Option D → Found D
  placed t b None = Broke b
  placed t b (Some m) = Holds (slice_set t b (Some m))

  -- e comes to the address b, where o stands
  abbrev pub into : Option (Option D) → Table D → ℕ → D → Found D
  into None t b e = Broke b
  into (Some o) t b e = placed t b (met o e)

  -- all that is sent comes to its address, in order
  abbrev pub give : Table D → Sent D → Found D
  give t [] = Holds t
  give t (p ∷ ps) = and_then (into (slice_get t p.0) t p.0 p.1) (λ t. give t ps)

  abbrev pub handed : ℕ → Table D → Option (Sent D) → Found D
  handed a t None = Broke a
  handed a t (Some ps) = give t ps

  -- the turn of the address a, where o stands
  abbrev pub visit : ℕ → Table D → Option (Option D) → Found D
  visit a t None = Holds t
  visit a t (Some None) = Holds t
  visit a t (Some (Some d)) = handed a t (passes a d)

  -- so many addresses from a up
  abbrev pub sweep : ℕ → ℕ → Table D → Found D
  sweep zero a t = Holds t
  sweep (suc k) a t = and_then (visit a t (slice_get t a)) (λ t. sweep k (a + 1) t)

  abbrev pub round : Table D → Found D
  round t = sweep (length t) 0 t

  abbrev pub rounds : ℕ → Table D → Found D
  rounds zero t = Holds t
  rounds (suc n) t = and_then (round t) (λ t. rounds n t)

  -- at first the starts stand at their addresses
  abbrev pub first : ℕ → Sent D → Found D
  first size starts = give (blank D size) starts

  -- so many rounds from there
  abbrev pub after : ℕ → ℕ → Sent D → Found D
  after n size starts = and_then (first size starts) (λ t. rounds n t)

-- Says d e: d says at least as much as e
module _ (D : Type 0) (Says : D → D → Type 0) where
  -- what stands at the address b says no more than e, which came there
  abbrev pub Stands : Table D → ℕ → D → Type 0
  Stands t b e = (d : D) × (slice_get t b ≡ Some (Some d)) × Says e d

  abbrev pub AllStand : Table D → Sent D → Type 0
  AllStand t [] = Unit {0}
  AllStand t (p ∷ ps) = Stands t p.0 p.1 × AllStand t ps

  -- the same addresses are sent to, and the first say more
  abbrev pub AllSay : Sent D → Sent D → Type 0
  AllSay [] [] = Unit {0}
  AllSay [] (q ∷ qs) = ⊥
  AllSay (p ∷ ps) [] = ⊥
  AllSay (p ∷ ps) (q ∷ qs) = (p.0 ≡ q.0) × Says p.1 q.1 × AllSay ps qs

  -- t says at least as much as s at each address at which something stands in t
  pub record Above (t s : Table D) : Type 0 where
    pub size : length t ≡ length s
    pub says : (a : ℕ) (d : D) → slice_get t a ≡ Some (Some d) → (x : D) × (slice_get s a ≡ Some (Some x)) × Says d x

module _ (D : Type 0) (passes : ℕ → D → Option (Sent D)) (Says : D → D → Type 0) where
  -- what the address a sends on stands where it went
  abbrev pub Settled : ℕ → Table D → Type 0
  Settled a t = (d : D) → slice_get t a ≡ Some (Some d) → (ps : Sent D) × (passes a d ≡ Some ps) × AllStand D Says t ps

  abbrev pub AllSettled : Table D → Type 0
  AllSettled t = (a : ℕ) → Settled a t

-- each that is sent is no higher than h
abbrev pub AllLow : {D : Type 0} → (D → ℕ) → ℕ → Sent D → Type 0
AllLow height h [] = Unit {0}
AllLow height h (p ∷ ps) = (height p.1 ≤ h) × AllLow height h ps

-- What the rounds need of descriptions. By its weight each can lose only so much; its height bounds its weight, and grows
-- by one at most where it is sent on
pub record Laws (D : Type 0) (meet : D → D → Option D) (passes : ℕ → D → Option (Sent D)) (Says : D → D → Type 0) (weight height : D → ℕ) : Type 0 where
  pub says_same : (d : D) → Says d d
  pub says_trans : (d e f : D) → Says d e → Says e f → Says d f
  pub meet_first : (d e m : D) → meet d e ≡ Some m → Says d m
  pub meet_second : (d e m : D) → meet d e ≡ Some m → Says e m
  pub meet_best : (d e x : D) → Says d x → Says e x → (m : D) × (meet d e ≡ Some m) × Says m x
  pub meet_less : (d e m : D) → meet d e ≡ Some m → (m ≡ d) ⊎ (weight m < weight d)
  pub meet_height : (d e m : D) → meet d e ≡ Some m → height m ≡ height d
  pub passes_more : (a : ℕ) (d x : D) (qs : Sent D) → Says d x → passes a x ≡ Some qs → (ps : Sent D) × (passes a d ≡ Some ps) × AllSay D Says ps qs
  pub passes_low : (a : ℕ) (d : D) (ps : Sent D) → passes a d ≡ Some ps → AllLow height (height d + 1) ps
  pub light : (d : D) → weight d ≤ 4 * height d
