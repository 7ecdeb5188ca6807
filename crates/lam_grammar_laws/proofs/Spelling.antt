-- A text for each list of symbols, and the same symbols in another text.
use Rattle.std.proofs.Common.{◌≡◌, ℕ, zero, suc, ◌+◌, ◌<◌, ◌≤◌, ◌⊎◌, inl, inr, Bool, true, false, Option, Some, List, [], ◌∷◌, ◌++◌, length, refl, sym, ap, ◌∙◌, subst, arith, length-append}
use Rattle.std.proofs.lemmas.Bool.{cases_lt}
use Rattle.lam_grammar_laws.specs.Grammar.{Symbol, mark, rule, Grammar, production, enters, leaves, Reads, nothing, token, part}
use Rattle.lam_grammar_laws.specs.Examples.{Examples, both, either, implies, all_empty, words, ends, front_ends, closes_all, followed, IsBelow}
use Rattle.lam_grammar_laws.proofs.Laws.{Same, grows}
use Rattle.lam_grammar_laws.proofs.Sound.{Sound}

pub both_left : (a b : Bool) → both a b ≡ true → a ≡ true
both_left true b h = refl
both_left false b h = cc

pub both_right : (a b : Bool) → both a b ≡ true → b ≡ true
both_right true b h = h
both_right false b h = cc

pub both_of : (a b : Bool) → a ≡ true → b ≡ true → both a b ≡ true
both_of true b h k = k
both_of false b h k = cc

pub either_cases : (a b : Bool) → either a b ≡ true → (a ≡ true) ⊎ (b ≡ true)
either_cases true b h = inl refl
either_cases false b h = inr h

pub implied : (a b : Bool) → implies a b ≡ true → a ≡ true → b ≡ true
implied true b h e = h
implied false b h e = cc

pub cases_bool : (b : Bool) → (b ≡ true) ⊎ (b ≡ false)
cases_bool true = inl refl
cases_bool false = inr refl

abbrev pub HasAt : {A : Type 0} → (ℕ → Option A) → ℕ → List A → Type 0
HasAt look i [] = Unit {0}
HasAt look i (w ∷ ws) = (look i ≡ Some w) × HasAt look (i + 1) ws

pub has_front : {A : Type 0} (look : ℕ → Option A) (i : ℕ) (xs ys : List A) → HasAt look i (xs ++ ys) → HasAt look i xs
has_front look i [] ys h = tt
has_front look i (x ∷ xs) ys h = (h.0, has_front look (i + 1) xs ys h.1)

pub has_back : {A : Type 0} (look : ℕ → Option A) (i k : ℕ) (xs ys : List A) → i + length xs ≡ k → HasAt look i (xs ++ ys) → HasAt look k ys
has_back look i k [] ys e h = let q : i ≡ k = omega arith in subst (λ m. HasAt look m ys) q h
has_back look i k (x ∷ xs) ys e h = has_back look (i + 1) k xs ys (omega arith) h.1

module _ (G : Grammar) (E : Examples G) (S : Sound G E) where
  pub all_empty_words : (p : List (Symbol G.Class G.Rule)) → all_empty E.null p ≡ true → words G E p ≡ []
  all_empty_words [] h = refl
  all_empty_words (mark c ∷ rest) h = cc
  all_empty_words (rule r ∷ rest) h =
      let e = S.null_word r (both_left _ _ h) in
      let f = all_empty_words rest (both_right (E.null r) _ h) in
      rw (e, f) refl

  pub reads_none : {cap : ℕ → ℕ} {look : ℕ → Option G.Token} {p : List (Symbol G.Class G.Rule)} {before : G.Value} {s i j t : ℕ} {vs : List G.Value} → Reads G cap look p before s i vs j t → j ≤ i → all_empty E.null p ≡ true
  reads_none nothing le = refl
  reads_none (token l f d h) le = absurd (omega (arith, grows h))
  reads_none (part {r = r} {body = body} {before = before} {i = i} p h g) le =
      let e = S.emptying r before _ body p (reads_none h (omega (arith, grows g))) in
      both_of _ _ e.1 (reads_none g (omega (arith, grows h)))

  produces : (r : G.Rule) (before : G.Value) (o o' : Option G.Token) (body : List (Symbol G.Class G.Rule)) → production G r before o ≡ Some body → (o' ≡ o) ⊎ ((ends (E.closes r) o' ≡ true) × (all_empty E.null body ≡ true)) → production G r before o' ≡ Some body
  produces r before o o' body p (inl q) = ap (production G r before) q ∙ p
  produces r before o o' body p (inr q) =
      let e = S.emptying r before o body p q.1 in
      S.empties r before o' e.1 q.0 ∙ ap Some (sym e.0)

  -- The same symbols in another text, which may go on otherwise where nothing depends on it.
  pub moves : {cap cap' : ℕ → ℕ} {look look' : ℕ → Option G.Token} {p : List (Symbol G.Class G.Rule)} {before : G.Value} {s i j t : ℕ} {vs : List G.Value} → Reads G cap look p before s i vs j t → Same G look look' j → (look' j ≡ look j) ⊎ (closes_all G E p (look' j) ≡ true) → ((m : ℕ) → m < j → cap m ≤ cap' m) → Reads G cap' look' p before s i vs j t
  moves nothing same on f = nothing
  moves (token {i = i} l c d h) same on f =
      let a = grows h in
      token (same i (omega arith) ∙ l) c (omega (arith, d, f i (omega arith))) (moves h same on f)
  moves {cap} {cap'} {look} {look'} (part {r = r} {body = body} {rest = rest} {before = before} {i = i} {k = k} {j = j} p h g) same on f =
      let a = grows h in
      let b = grows g in
      -- where the rest is empty, what follows it ends the rule
      let last : k ≡ j → (look' k ≡ look k) ⊎ (ends (E.closes r) (look' k) ≡ true) = (λ q.
      elim on [
        | inl y ↦ inl (subst (λ m. look' m ≡ look m) (sym q) y)
        | inr n ↦ inr (implied _ _ (both_left _ _ (subst (λ m. closes_all G E (rule r ∷ rest) (look' m) ≡ true) (sym q) n)) (reads_none g (omega arith)))
      ]) in
      let body_ends : (look' k ≡ look k) ⊎ (closes_all G E body (look' k) ≡ true) =
      elim (cases_lt k j) [
        | inl lt ↦ inl (same k lt)
        | inr ge ↦ elim (last (omega arith)) [ inl y ↦ inl y | inr n ↦ inr (S.closing r before _ body p _ n) ]
      ] in
      let chosen : (look' i ≡ look i) ⊎ ((ends (E.closes r) (look' i) ≡ true) × (all_empty E.null body ≡ true)) =
      elim (cases_lt i j) [
        | inl lt ↦ inl (same i lt)
        | inr ge ↦
            let q : k ≡ i = omega arith in
            let n = reads_none h (omega arith) in
            subst (λ m. (look' m ≡ look m) ⊎ ((ends (E.closes r) (look' m) ≡ true) × (all_empty E.null body ≡ true))) q (elim (last (omega arith)) [ inl x ↦ inl x | inr x ↦ inr (x, n) ])
      ] in
      let rest_ends : (look' j ≡ look j) ⊎ (closes_all G E rest (look' j) ≡ true) = elim on [ inl y ↦ inl y | inr n ↦ inr (both_right _ _ n) ] in
      part (produces r before _ _ body p chosen) (moves h (λ m l. same m (omega arith)) body_ends (λ m l. f m (omega arith))) (moves g same rest_ends f)

  -- ---- a text of each list

  -- what follows the rule at the front of a list ends it
  pub closes_after : (look : ℕ → Option G.Token) (r : G.Rule) (rest : List (Symbol G.Class G.Rule)) (k j : ℕ) → followed G E (rule r ∷ rest) ≡ true → HasAt look k (words G E rest) → k + length (words G E rest) ≡ j → closes_all G E (rule r ∷ rest) (look j) ≡ true → ends (E.closes r) (look k) ≡ true
  closes_after look r rest k j f has e on =
      elim (either_cases _ _ (both_left _ _ f)) [
        | inl n ↦
            let w = ap length (all_empty_words rest n) in
            let q : j ≡ k = omega (arith, w) in
            subst (λ m. ends (E.closes r) (look m) ≡ true) q (implied _ _ (both_left _ _ on) n)
        | inr c ↦ at_front (words G E rest) has c
      ]
    where
      at_front : (ws : List G.Token) → HasAt look k ws → front_ends (E.closes r) ws ≡ true → ends (E.closes r) (look k) ≡ true
      at_front [] h c = cc
      at_front (w ∷ ws) h c = ap (ends (E.closes r)) h.0 ∙ c

  -- the symbols in their text, if the cap is no less than some number
  pub record Written (look : ℕ → Option G.Token) (p : List (Symbol G.Class G.Rule)) (before : G.Value) (s i j : ℕ) : Type 0 where
    pub need : ℕ
    pub vs : List G.Value
    pub t : ℕ
    pub reads : (cap : ℕ → ℕ) → ((m : ℕ) → i ≤ m → need ≤ cap m) → Reads G cap look p before s i vs j t

  -- each rule of a lower number has its text
  abbrev SpellsBelow : ℕ → Type 0
  SpellsBelow n = (look : ℕ → Option G.Token) (r : G.Rule) (before : G.Value) (s i j : ℕ) → E.rank r < n → HasAt look i (E.word r) → i + length (E.word r) ≡ j → E.null r ≡ false → ends (E.closes r) (look j) ≡ true → Written look (E.short r) before s i j

  spell_list : (n : ℕ) → SpellsBelow n → (look : ℕ → Option G.Token) (p : List (Symbol G.Class G.Rule)) (before : G.Value) (s i j : ℕ) → IsBelow G E.rank n p → followed G E p ≡ true → HasAt look i (words G E p) → i + length (words G E p) ≡ j → closes_all G E p (look j) ≡ true → Written look p before s i j
  spell_list n below look [] before s i j b f has e on =
      let q : i ≡ j = omega arith in
      subst (λ m. Written look [] before s i m) q (record { need = 0; vs = []; t = s; reads = λ cap h. nothing })
  spell_list n below look (mark c ∷ rest) before s i j b f has e on =
      let w = spell_list n below look rest (G.leaf (E.sample c)) (s + G.weight c) (i + 1) j b f has.1 (omega arith) on in
      record {
        need = s + w.need;
        vs = G.leaf (E.sample c) ∷ w.vs;
        t = w.t;
        reads = λ cap h. token has.0 (S.fit c) (omega (arith, h i (omega arith))) (w.reads cap (λ m l. omega (arith, h m (omega arith))));
      }
  spell_list n below look (rule r ∷ rest) before s i j b f has e on =
      let ws = words G E rest in
      let len = length-append (E.word r) ws in
      let k = i + length (E.word r) in
      let back : HasAt look k ws = has_back look i k (E.word r) ws refl has in
      let to_end : k + length ws ≡ j = omega (arith, len) in
      let after : followed G E rest ≡ true = both_right _ _ f in
      let on_rest : closes_all G E rest (look j) ≡ true = both_right (implies (all_empty E.null rest) (ends (E.closes r) (look j))) _ on in
      let closing : ends (E.closes r) (look k) ≡ true = closes_after look r rest k j f back to_end on in
      elim (cases_bool (E.null r)) [
        | inl null ↦
            let q : k ≡ i = omega (arith, ap length (S.null_word r null)) in
            let w = spell_list n below look rest (G.act r []) (leaves G r s (enters G r s)) i j b.1 after (subst (λ m. HasAt look m ws) q back) (omega arith) on_rest in
            record {
              need = w.need;
              vs = G.act r [] ∷ w.vs;
              t = w.t;
              reads = λ cap h. part (S.empties r before (look i) null (subst (λ m. ends (E.closes r) (look m) ≡ true) q closing)) nothing (w.reads cap h);
            }
        | inr full ↦
            let x = below look r before (enters G r s) i k b.0 (has_front look i (E.word r) ws has) refl full closing in
            let w = spell_list n below look rest (G.act r x.vs) (leaves G r s x.t) k j b.1 after back to_end on_rest in
            let ch = S.chooses r before full in
            let there : look i ≡ Some (E.first r) = (rw ch.1 at (has_front look i (E.word r) ws has)).0 in
            record {
              need = x.need + w.need;
              vs = G.act r x.vs ∷ w.vs;
              t = w.t;
              reads = λ cap h. part (ap (production G r before) there ∙ ch.2) (x.reads cap (λ m l. omega (arith, h m l))) (w.reads cap (λ m l. omega (arith, h m (omega arith))));
            }
      ]

  spell_below : (n : ℕ) → SpellsBelow n
  spell_below zero look r before s i j b has e full on = absurd (omega arith)
  spell_below (suc n) look r before s i j b has e full on =
      let q = S.spells r full in
      let ch = S.chooses r before full in
      spell_list (E.rank r) (λ look' r' before' s' i' j' b'. spell_below n look' r' before' s' i' j' (omega arith)) look (E.short r) before s i j (S.lower r) (S.following r before _ _ ch.2) (rw q has) (omega (arith, ap length q)) (S.closing r before _ _ ch.2 _ on)

  all_below : (p : List (Symbol G.Class G.Rule)) → IsBelow G E.rank E.top p
  all_below [] = tt
  all_below (mark c ∷ rest) = all_below rest
  all_below (rule r ∷ rest) = (S.topmost r, all_below rest)

  -- Each list of symbols is read in its text.
  pub spell : (look : ℕ → Option G.Token) (p : List (Symbol G.Class G.Rule)) (before : G.Value) (s i j : ℕ) → followed G E p ≡ true → HasAt look i (words G E p) → i + length (words G E p) ≡ j → closes_all G E p (look j) ≡ true → Written look p before s i j
  spell look p before s i j f has e on = spell_list E.top (spell_below E.top) look p before s i j (all_below p) f has e on
