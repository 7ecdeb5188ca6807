-- What stops at a token can be gone on with before that token.
use Rattle.std.proofs.Common.{◌≡◌, ℕ, ◌+◌, ◌<◌, ◌≤◌, ◌⊎◌, inl, inr, Bool, true, false, cond, nat_lt, Option, Some, None, List, [], ◌∷◌, ◌++◌, length, take, slice_get, refl, sym, ap, ◌∙◌, subst, append_assoc, arith, length-append}
use Rattle.std.proofs.lemmas.Option.{slice_get-get_or, slice_get_within, slice_get_past}
use Rattle.std.proofs.lemmas.Bool.{cond_below, cond_above, cases_lt}
use Rattle.std.proofs.lemmas.List.{get_or_append_left, get_or-take, length-take-le}
use Rattle.std.proofs.Math.Seq.{get_or-append_seam}
use Rattle.lam_grammar_laws.specs.Grammar.{Symbol, mark, rule, Grammar, production, enters, leaves, Reads, nothing, token, part}
use Rattle.lam_grammar_laws.specs.Texts.{limited, capped}
use Rattle.lam_grammar_laws.specs.Examples.{Examples, implies, all_empty, words, ends, closes_all, followed}
use Rattle.lam_grammar_laws.specs.Stopping.{Stop, unexpected, too_deep, could, reached, stop_place, AtFirst, AfterLast, Stops, wrong, deep, there, sample, opens, skips, later, inside, after, barred}
use Rattle.lam_grammar_laws.proofs.Laws.{stands}
use Rattle.lam_grammar_laws.proofs.Sound.{Sound}
use Rattle.lam_grammar_laws.proofs.Spelling.{both_right, both_of, HasAt, moves, closes_after, Written, spell}

-- ---- texts

pub at_front : {A : Type 0} (xs ys : List A) (j : ℕ) → j < length xs → slice_get (xs ++ ys) j ≡ slice_get xs j
at_front [] ys j h = absurd (omega arith)
at_front (x ∷ xs) ys j h =
    slice_get-get_or ((x ∷ xs) ++ ys) j x (omega (arith, length-append (x ∷ xs) ys)) ∙ ap Some (get_or_append_left (x ∷ xs) ys x j h) ∙ sym (slice_get-get_or (x ∷ xs) j x h)

at_seam : {A : Type 0} (xs : List A) (y : A) (ys : List A) → slice_get (xs ++ y ∷ ys) (length xs) ≡ Some y
at_seam xs y ys =
    slice_get-get_or (xs ++ y ∷ ys) (length xs) y (omega (arith, length-append xs (y ∷ ys))) ∙ ap Some (get_or-append_seam xs y ys y)

front_taken : {A : Type 0} (ts : List A) (n j : ℕ) → n ≤ length ts → j < n → slice_get (take n ts) j ≡ slice_get ts j
front_taken [] n j le h = absurd (omega arith)
front_taken (x ∷ xs) n j le h =
    let len = length-take-le n (x ∷ xs) le in
    slice_get-get_or (take n (x ∷ xs)) j x (omega (arith, len)) ∙ ap Some (get_or-take n (x ∷ xs) j x h) ∙ sym (slice_get-get_or (x ∷ xs) j x (omega arith))

pub at_taken : {A : Type 0} (ts : List A) (n : ℕ) (rest : List A) → n ≤ length ts → (j : ℕ) → j < n → slice_get (take n ts ++ rest) j ≡ slice_get ts j
at_taken ts n rest le j h =
    let len = length-take-le n ts le in
    at_front (take n ts) rest j (omega (arith, len)) ∙ front_taken ts n j le h

has_all : {A : Type 0} (xs ws : List A) → HasAt (slice_get (xs ++ ws)) (length xs) ws
has_all xs [] = tt
has_all xs (w ∷ ws) =
    let n : length (xs ++ w ∷ []) ≡ length xs + 1 = omega (arith, length-append xs (w ∷ [])) in
    let rest = subst (λ l. HasAt (slice_get l) (length (xs ++ w ∷ [])) ws) (append_assoc xs (w ∷ []) ws) (has_all (xs ++ w ∷ []) ws) in
    (at_seam xs w ws, subst (λ m. HasAt (slice_get (xs ++ w ∷ ws)) m ws) n rest)

-- the cap is no lower
pub low : (G : Grammar) (d bound j : ℕ) → j < d → G.limit ≤ capped G d bound j
low G d bound j h = let e : G.limit ≡ capped G d bound j = cond_below j d G.limit bound h in omega (arith, e)

pub high : (G : Grammar) (d bound j : ℕ) → d ≤ j → bound ≤ capped G d bound j
high G d bound j h = let e : bound ≡ capped G d bound j = cond_above j d G.limit bound bound h refl in omega (arith, e)

wider : (b : Bool) (limit m n : ℕ) → m ≤ n → cond b limit m ≤ cond b limit n
wider true limit m n h = omega arith
wider false limit m n h = h

-- how many tokens are kept
abbrev pub kept : {Token : Type 0} → Stop Token → ℕ
kept (unexpected b m) = m
kept (could m w) = m
kept (too_deep m) = m + 1
kept (reached m) = m + 1

keeps : {Token : Type 0} (x : Stop Token) → stop_place x ≤ kept x
keeps (unexpected b m) = omega arith
keeps (could m w) = omega arith
keeps (too_deep m) = omega arith
keeps (reached m) = omega arith

-- the token with which the text goes on
abbrev pub Next : {Token : Type 0} → Stop Token → Option Token → Type 0
Next (unexpected b m) o = ⊥
Next (could m w) o = o ≡ Some w
Next (too_deep m) o = Unit {0}
Next (reached m) o = Unit {0}

-- it is no fault
abbrev pub Definite : {Token : Type 0} → Stop Token → Type 0
Definite (unexpected b m) = ⊥
Definite x = Unit {0}

next_kept : {Token : Type 0} (x : Stop Token) (xs ys : List Token) → Next x (slice_get xs (stop_place x)) → Next x (slice_get (xs ++ ys) (stop_place x))
next_kept (unexpected b m) xs ys n = n
next_kept (could m w) xs ys n = at_front xs ys m (slice_get_within xs m w n) ∙ n
next_kept (too_deep m) xs ys n = tt
next_kept (reached m) xs ys n = tt

pub within_text : {G : Grammar} (ts : List G.Token) {cap : ℕ → ℕ} {p : List (Symbol G.Class G.Rule)} {before : G.Value} {s i j t : ℕ} {vs : List G.Value} → Reads G cap (slice_get ts) p before s i vs j t → i ≤ length ts → j ≤ length ts
within_text ts nothing le = le
within_text ts (token {i = i} {w = w} l f d h) le = within_text ts h (omega (arith, slice_get_within ts i w l))
within_text ts (part p h g) le = within_text ts g (within_text ts h le)

joins : {G : Grammar} {cap : ℕ → ℕ} {look : ℕ → Option G.Token} {r : G.Rule} {rest : List (Symbol G.Class G.Rule)} {before v : G.Value} {s i k u j t : ℕ} {vs : List G.Value} → Reads G cap look (rule r ∷ []) before s i (v ∷ []) k u → Reads G cap look rest v u k vs j t → Reads G cap look (rule r ∷ rest) before s i (v ∷ vs) j t
joins (part p h nothing) g = part p h g

module _ (G : Grammar) (E : Examples G) (S : Sound G E) (ts : List G.Token) where
  -- a text that goes on from the first tokens to the end of the symbols
  pub record Completes (x : Stop G.Token) (p : List (Symbol G.Class G.Rule)) (before : G.Value) (s i : ℕ) : Type 0 where
    pub others : List G.Token
    pub same : (j : ℕ) → j < kept x → slice_get others j ≡ slice_get ts j
    pub next : Next x (slice_get others (stop_place x))
    pub long : kept x ≤ length others
    pub bound : ℕ
    pub vs : List G.Value
    pub end : ℕ
    pub sum : ℕ
    pub whole : length others ≡ end
    pub reads : Reads G (capped G (stop_place x) bound) (slice_get others) p before s i vs end sum

  -- other symbols in the same text
  in_same : {x : Stop G.Token} {p q : List (Symbol G.Class G.Rule)} {before before' : G.Value} {s s' i i' : ℕ} → (k : Completes x p before s i) (vs : List G.Value) → Reads G (capped G (stop_place x) k.bound) (slice_get k.others) q before' s' i' vs k.end k.sum → Completes x q before' s' i'
  in_same k vs r = record { others = k.others; same = k.same; next = k.next; long = k.long; bound = k.bound; vs = vs; end = k.end; sum = k.sum; whole = k.whole; reads = r }

  followed_rest : (r : G.Rule) (rest : List (Symbol G.Class G.Rule)) → followed G E (rule r ∷ rest) ≡ true → followed G E rest ≡ true
  followed_rest r rest f = both_right _ _ f

  abbrev text : List (Symbol G.Class G.Rule) → List G.Token
  text p = words G E p

  -- nothing is open at the end of a text
  at_end : (p : List (Symbol G.Class G.Rule)) → closes_all G E p None ≡ true
  at_end [] = refl
  at_end (mark c ∷ rest) = at_end rest
  at_end (rule r ∷ rest) = both_of _ _ (always (all_empty E.null rest)) (at_end rest)
    where
      always : (b : Bool) → implies b true ≡ true
      always true = refl
      always false = refl

  ends_at : (p : List (Symbol G.Class G.Rule)) (o : Option G.Token) → o ≡ None → closes_all G E p o ≡ true
  ends_at p o e = ap (closes_all G E p) e ∙ at_end p

  -- the symbols spelt after some other tokens
  after_tokens : (xs : List G.Token) (n : ℕ) (p : List (Symbol G.Class G.Rule)) (before : G.Value) (s : ℕ) → length xs ≡ n → followed G E p ≡ true → Written G E S (slice_get (xs ++ text p)) p before s n (n + length (text p))
  after_tokens xs n p before s e f =
      let has : HasAt (slice_get (xs ++ text p)) n (text p) = subst (λ m. HasAt (slice_get (xs ++ text p)) m (text p)) e (has_all xs (text p)) in
      let past = slice_get_past (xs ++ text p) (n + length (text p)) (omega (arith, length-append xs (text p))) in
      spell G E S _ p before s n _ f has refl (ends_at p _ past)

  -- the text of what follows ends the rule
  ends_well : (xs : List G.Token) (n : ℕ) (r : G.Rule) (rest : List (Symbol G.Class G.Rule)) → length xs ≡ n → followed G E (rule r ∷ rest) ≡ true → ends (E.closes r) (slice_get (xs ++ text rest) n) ≡ true
  ends_well xs n r rest e f =
      let has : HasAt (slice_get (xs ++ text rest)) n (text rest) = subst (λ m. HasAt (slice_get (xs ++ text rest)) m (text rest)) e (has_all xs (text rest)) in
      let past = slice_get_past (xs ++ text rest) (n + length (text rest)) (omega (arith, length-append xs (text rest))) in
      closes_after G E S _ r rest n _ f has refl (ends_at (rule r ∷ rest) _ past)

  alone_closes : (r : G.Rule) (o : Option G.Token) → ends (E.closes r) o ≡ true → closes_all G E (rule r ∷ []) o ≡ true
  alone_closes r o e = both_of _ _ e refl

  seam : (n : ℕ) (w : G.Token) (ws : List G.Token) → n ≤ length ts → slice_get (take n ts ++ w ∷ ws) n ≡ Some w
  seam n w ws le =
      let len = length-take-le n ts le in
      subst (λ m. slice_get (take n ts ++ w ∷ ws) m ≡ Some w) len (at_seam (take n ts) w ws)

  -- a text that goes on with that of the symbols
  here : (w : G.Token) (ws : List G.Token) (p : List (Symbol G.Class G.Rule)) (before : G.Value) (s i : ℕ) → i ≤ length ts → followed G E p ≡ true → text p ≡ w ∷ ws → Completes (could i w) p before s i
  here w ws p before s i le f e =
      let len = length-take-le i ts le in
      let x = after_tokens (take i ts) i p before s len f in
      record {
        others = take i ts ++ text p;
        same = λ j h. at_taken ts i (text p) le j (omega arith);
        next = rw e (seam i w ws le);
        long = omega (arith, length-append (take i ts) (text p));
        bound = x.need;
        vs = x.vs;
        end = i + length (text p);
        sum = x.t;
        whole = omega (arith, length-append (take i ts) (text p));
        reads = x.reads (capped G i x.need) (λ m l. high G i x.need m (omega arith));
      }

  -- a text that goes on with a token that is there
  there_on : (x : Stop G.Token) (c : G.Class) (rest : List (Symbol G.Class G.Rule)) (before : G.Value) (s i : ℕ) (w : G.Token) → kept x ≡ i + 1 → stop_place x ≡ i → Next x (slice_get ts i) → slice_get ts i ≡ Some w → G.fits c w ≡ true → followed G E rest ≡ true → Completes x (mark c ∷ rest) before s i
  there_on x c rest before s i w ke pl nx l q f =
      let within = slice_get_within ts i w l in
      let le' : i + 1 ≤ length ts = omega arith in
      let len = length-take-le (i + 1) ts le' in
      let a = after_tokens (take (i + 1) ts) (i + 1) rest (G.leaf w) (s + G.weight c) len f in
      let others : List G.Token = take (i + 1) ts ++ text rest in
      let at_i : slice_get others i ≡ slice_get ts i = at_taken ts (i + 1) (text rest) le' i (omega arith) in
      record {
        others = others;
        same = λ j h. at_taken ts (i + 1) (text rest) le' j (omega arith);
        next = subst (λ m. Next x (slice_get others m)) (sym pl) (subst (Next x) (sym at_i) nx);
        long = omega (arith, length-append (take (i + 1) ts) (text rest));
        bound = s + a.need;
        vs = G.leaf w ∷ a.vs;
        end = i + 1 + length (text rest);
        sum = a.t;
        whole = omega (arith, length-append (take (i + 1) ts) (text rest));
        reads = token (at_i ∙ l) q (omega (arith, high G (stop_place x) (s + a.need) i (omega arith))) (a.reads (capped G (stop_place x) (s + a.need)) (λ m l. omega (arith, high G (stop_place x) (s + a.need) m (omega arith))));
      }

  -- a text of a body goes on with that of what follows its rule
  pub up : (x : Stop G.Token) (r : G.Rule) (body rest : List (Symbol G.Class G.Rule)) (before : G.Value) (s i : ℕ) → followed G E (rule r ∷ rest) ≡ true → i ≤ stop_place x → (k : Completes x body before (enters G r s) i) → production G r before (slice_get k.others i) ≡ Some body → i < length k.others → Completes x (rule r ∷ rest) before s i
  up x r body rest before s i f st k p lt =
      let a = keeps x in
      let rest_followed = followed_rest r rest f in
      let w = after_tokens k.others k.end rest (G.act r k.vs) (leaves G r s k.sum) k.whole rest_followed in
      let big = k.bound + w.need in
      let far : (m : ℕ) → k.end ≤ m → w.need ≤ capped G (stop_place x) big m = (λ m l. omega (arith, high G (stop_place x) big m (omega (arith, k.long, k.whole)))) in
      let first : Reads G (capped G (stop_place x) k.bound) (slice_get k.others) (rule r ∷ []) before s i (G.act r k.vs ∷ []) k.end (leaves G r s k.sum) = part p k.reads nothing in
      let well = ends_well k.others k.end r rest k.whole f in
      record {
        others = k.others ++ text rest;
        same = λ j h. at_front k.others (text rest) j (omega (arith, k.long)) ∙ k.same j h;
        next = next_kept x k.others (text rest) k.next;
        long = omega (arith, k.long, length-append k.others (text rest));
        bound = big;
        vs = G.act r k.vs ∷ w.vs;
        end = k.end + length (text rest);
        sum = w.t;
        whole = omega (arith, length-append k.others (text rest), k.whole);
        reads = joins (moves G E S first (λ j h. at_front k.others (text rest) j (omega (arith, k.whole))) (inr (alone_closes r _ well)) (λ m l. wider (nat_lt m (stop_place x)) G.limit k.bound big (omega arith))) (w.reads (capped G (stop_place x) big) far);
      }

  -- a rule that stops at its first token
  restart : (x : Stop G.Token) (r : G.Rule) (rest : List (Symbol G.Class G.Rule)) (before : G.Value) (s i : ℕ) → Definite x → i ≤ length ts → followed G E (rule r ∷ rest) ≡ true → AtFirst G E r i x → i ≤ stop_place x → kept x ≤ i → Completes x (rule r ∷ rest) before s i
  restart (unexpected b m) r rest before s i d le f a st ke = absurd d
  restart (could m w) r rest before s i d le f a st ke =
      let q : m ≡ i = omega arith in
      let e = a q in
      let ch = S.chooses r before e.1 in
      let t : text (rule r ∷ rest) ≡ w ∷ (ch.0 ++ text rest) = rw (e.0, ch.1) refl in
      subst (λ n. Completes (could n w) (rule r ∷ rest) before s i) (sym q) (here w (ch.0 ++ text rest) (rule r ∷ rest) before s i le f t)
  restart (too_deep m) r rest before s i d le f a st ke = absurd (omega arith)
  restart (reached m) r rest before s i d le f a st ke = absurd (omega arith)

  -- what follows a rule that was read ends it, if it does not go on as the tokens do
  ends_there : (x : Stop G.Token) (r : G.Rule) (k : ℕ) (others : List G.Token) → AfterLast G E r k x → k ≤ stop_place x → Next x (slice_get others (stop_place x)) → ((j : ℕ) → j < kept x → slice_get others j ≡ slice_get ts j) → (slice_get others k ≡ slice_get ts k) ⊎ (closes_all G E (rule r ∷ []) (slice_get others k) ≡ true)
  ends_there (unexpected b m) r k others a st n same = absurd n
  ends_there (could m w) r k others a st n same =
      elim (cases_lt k m) [
        | inl lt ↦ inl (same k lt)
        | inr ge ↦
            let q : m ≡ k = omega arith in
            let o : slice_get others k ≡ Some w = subst (λ j. slice_get others j ≡ Some w) q n in
            inr (alone_closes r _ (ap (ends (E.closes r)) o ∙ a q))
      ]
  ends_there (too_deep m) r k others a st n same = inl (same k (omega arith))
  ends_there (reached m) r k others a st n same = inl (same k (omega arith))

  pub completes : {p : List (Symbol G.Class G.Rule)} {before : G.Value} {s i : ℕ} {x : Stop G.Token} → Definite x → i ≤ length ts → followed G E p ≡ true → Stops G E (limited G) (slice_get ts) p before s i x → Completes x p before s i
  completes df le f (wrong q) = absurd df
  completes df le f (barred p) = absurd df
  completes df le f (sample {c = c} {rest = rest} {before = before} {s = s} {i = i}) = here (E.sample c) (text rest) (mark c ∷ rest) before s i le f refl
  completes df le f (opens {r = r} {rest = rest} {before = before} {s = s} {i = i} fl) =
      let g = S.fills r before fl in
      let k = here (E.first r) g.0 (E.full r) before (enters G r s) i le (S.following r before _ _ g.2) g.1 in
      up (could i (E.first r)) r (E.full r) rest before s i f (omega arith) k (ap (production G r before) k.next ∙ g.2) (slice_get_within k.others i (E.first r) k.next)
  completes df le f (skips {r = r} {rest = rest} {before = before} {s = s} {i = i} {w = w} n cl h) =
      let k = completes df le (followed_rest r rest f) h in
      let e = S.empties r before (Some w) n cl in
      in_same k (G.act r [] ∷ k.vs) (part (ap (production G r before) k.next ∙ e) nothing k.reads)
  completes df le f (deep {c = c} {rest = rest} {before = before} {s = s} {i = i} {w = w} l q d) = there_on (too_deep i) c rest before s i w refl refl tt l q f
  completes df le f (there {c = c} {rest = rest} {before = before} {s = s} {i = i} {w = w} l q) = there_on (reached i) c rest before s i w refl refl tt l q f
  completes df le f (later {c = c} {s = s} {i = i} {w = w} {x = x} l q d h) =
      let within = slice_get_within ts i w l in
      let a = stands h in
      let b = keeps x in
      let k = completes df (omega arith) f h in
      in_same k (G.leaf w ∷ k.vs) (token (k.same i (omega arith) ∙ l) q (omega (arith, d, low G (stop_place x) k.bound i (omega arith))) k.reads)
  completes df le f (inside {r = r} {body = body} {rest = rest} {before = before} {s = s} {i = i} {x = x} p a h) =
      elim (cases_lt i (kept x)) [
        | inr ge ↦ restart x r rest before s i df le f a (stands h) ge
        | inl lt ↦
            let k = completes df le (S.following r before _ body p) h in
            up x r body rest before s i f (stands h) k (ap (production G r before) (k.same i lt) ∙ p) (omega (arith, k.long))
      ]
  completes df le f (after {r = r} {body = body} {rest = rest} {before = before} {s = s} {i = i} {k = k} {u = u} {us = us} {x = x} p g a h) =
      let first : Reads G (limited G) (slice_get ts) (rule r ∷ []) before s i (G.act r us ∷ []) k (leaves G r s u) = part p g nothing in
      let st = stands h in
      let ke = keeps x in
      let c = completes df (within_text ts g le) (followed_rest r rest f) h in
      in_same c (G.act r us ∷ c.vs) (joins (moves G E S first (λ j l. c.same j (omega (arith, lower_place x j k l st))) (ends_there x r k c.others a st c.next c.same) (λ m l. low G (stop_place x) c.bound m (omega arith))) c.reads)
    where
      lower_place : (y : Stop G.Token) (j n : ℕ) → j < n → n ≤ stop_place y → j < kept y
      lower_place y j n l st = omega (arith, keeps y)
