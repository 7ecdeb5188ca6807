-- A rule that is read in part, for parsers that read a rule's body symbol by symbol.
use Rattle.std.proofs.Common.{◌≡◌, ℕ, ◌+◌, ◌<◌, ◌≤◌, Bool, true, false, cond, Option, Some, List, [], ◌∷◌, refl, sym, ap, ◌∙◌, subst, arith}
use Rattle.lam_grammar_laws.specs.Grammar.{Symbol, mark, rule, Grammar, production, enters, leaves, Reads, nothing, token, part}
use Rattle.lam_grammar_laws.specs.Examples.{Examples}
use Rattle.lam_grammar_laws.specs.Stopping.{Stop, unexpected, too_deep, could, reached, stop_place, AtFirst, AfterLast, Stops, wrong, deep, there, sample, opens, skips, later, inside, after, barred}
use Rattle.lam_grammar_laws.proofs.Laws.{stands}

-- what could stand at the place is of that sort
abbrev pub At : {Token : Type 0} → ℕ → (Token → Type 0) → Stop Token → Type 0
At k ok (could m w) = m ≡ k → ok w
At k ok x = Unit {0}

pub at_past : {Token : Type 0} (k : ℕ) (ok : Token → Type 0) (x : Stop Token) → k < stop_place x → At k ok x
at_past k ok (unexpected b m) lt = tt
at_past k ok (too_deep m) lt = tt
at_past k ok (could m w) lt = λ e. absurd (omega arith)
at_past k ok (reached m) lt = tt

-- whatever was read before it, the rule reads the tokens from i to before j and means v
abbrev pub Gives : (G : Grammar) → (ℕ → ℕ) → (ℕ → Option G.Token) → G.Rule → ℕ → ℕ → G.Value → ℕ → ℕ → Type 0
Gives G cap look r s i v j t = (before : G.Value) → Reads G cap look (rule r ∷ []) before s i (v ∷ []) j t

abbrev pub Comes : (G : Grammar) → Examples G → (ℕ → ℕ) → (ℕ → Option G.Token) → G.Rule → ℕ → ℕ → Stop G.Token → Type 0
Comes G E cap look r s i x = (before : G.Value) → Stops G E cap look (rule r ∷ []) before s i x

-- What was read of the rule from i to before k completes it, whatever follows, and what reading comes to there the rule comes to.
-- The symbols `rest` are left; `done` puts the values that were read before theirs.
pub record Stage (G : Grammar) (E : Examples G) (cap : ℕ → ℕ) (look : ℕ → Option G.Token) (r : G.Rule) (s i : ℕ) (rest : List (Symbol G.Class G.Rule)) (prev : G.Value → G.Value) (done : List G.Value → List G.Value) (k u : ℕ) (ok : G.Token → Type 0) : Type 0 where
  pub reads : (before : G.Value) (vs : List G.Value) (j t : ℕ) → Reads G cap look rest (prev before) u k vs j t → Reads G cap look (rule r ∷ []) before s i (G.act r (done vs) ∷ []) j (leaves G r s t)
  pub stops : (before : G.Value) (x : Stop G.Token) → At k ok x → Stops G E cap look rest (prev before) u k x → Stops G E cap look (rule r ∷ []) before s i x

-- What was read of the rule leaves the rule q, whose value is still open.
pub record Goes (V : Type 0) (G : Grammar) (wrap : V → G.Value) (E : Examples G) (cap : ℕ → ℕ) (look : ℕ → Option G.Token) (r q : G.Rule) (s i : ℕ) (value : V → G.Value) (k u : ℕ) (ok : G.Token → Type 0) : Type 0 where
  pub reads : (before : G.Value) (os : V) (j t : ℕ) → Gives G cap look q u k (wrap os) j t → Reads G cap look (rule r ∷ []) before s i (value os ∷ []) j (leaves G r s t)
  pub stops : (before : G.Value) (x : Stop G.Token) → At k ok x → Comes G E cap look q u k x → Stops G E cap look (rule r ∷ []) before s i x

pub joins : {G : Grammar} {cap : ℕ → ℕ} {look : ℕ → Option G.Token} {r : G.Rule} {rest : List (Symbol G.Class G.Rule)} {before v : G.Value} {s i k u j t : ℕ} {vs : List G.Value} → Reads G cap look (rule r ∷ []) before s i (v ∷ []) k u → Reads G cap look rest v u k vs j t → Reads G cap look (rule r ∷ rest) before s i (v ∷ vs) j t
joins (part p h nothing) g = part p h g

pub joins_stop : {G : Grammar} {E : Examples G} {cap : ℕ → ℕ} {look : ℕ → Option G.Token} {r : G.Rule} {rest : List (Symbol G.Class G.Rule)} {before v : G.Value} {s i k u : ℕ} {x : Stop G.Token} → Reads G cap look (rule r ∷ []) before s i (v ∷ []) k u → AfterLast G E r k x → Stops G E cap look rest v u k x → Stops G E cap look (rule r ∷ rest) before s i x
joins_stop (part p h nothing) a g = after p h a g

pub weaken : {G : Grammar} {E : Examples G} {cap : ℕ → ℕ} {look : ℕ → Option G.Token} {r : G.Rule} {rest : List (Symbol G.Class G.Rule)} {before : G.Value} {s i : ℕ} {x : Stop G.Token} → Stops G E cap look (rule r ∷ []) before s i x → Stops G E cap look (rule r ∷ rest) before s i x
weaken (inside p a h) = inside p a h
weaken (after p g a h) = elim h [ ]
weaken (opens f) = opens f
weaken (skips n c h) = elim h [ ]
weaken (barred p) = barred p

at_first : (G : Grammar) (E : Examples G) (r : G.Rule) (i : ℕ) (x : Stop G.Token) → E.null r ≡ false → At i (λ w. w ≡ E.first r) x → AtFirst G E r i x
at_first G E r i (unexpected b m) n a = tt
at_first G E r i (too_deep m) n a = tt
at_first G E r i (could m w) n a = λ e. (a e, n)
at_first G E r i (reached m) n a = tt

at_none : (G : Grammar) (E : Examples G) (r : G.Rule) (i : ℕ) (x : Stop G.Token) → At i (λ w. ⊥) x → AtFirst G E r i x
at_none G E r i (unexpected b m) a = tt
at_none G E r i (too_deep m) a = tt
at_none G E r i (could m w) a = λ e. absurd (a e)
at_none G E r i (reached m) a = tt

after_last : (G : Grammar) (E : Examples G) (r : G.Rule) (k : ℕ) (x : Stop G.Token) → At k (λ w. E.closes r w ≡ true) x → AfterLast G E r k x
after_last G E r k (unexpected b m) a = tt
after_last G E r k (too_deep m) a = tt
after_last G E r k (could m w) a = a
after_last G E r k (reached m) a = tt

-- What could stand where a rule begins is its first token, or that with which it would not be empty.
of_first : {G : Grammar} {E : Examples G} {cap : ℕ → ℕ} {look : ℕ → Option G.Token} {r : G.Rule} {before : G.Value} {s i : ℕ} {x : Stop G.Token} → Stops G E cap look (rule r ∷ []) before s i x → At i (λ w. w ≡ E.first r) x
of_first {G} {E} (inside {r = r} {i = i} {x = x} p a h) = go x a
  where
    go : (y : Stop G.Token) → AtFirst G E r i y → At i (λ w. w ≡ E.first r) y
    go (unexpected b m) a = tt
    go (too_deep m) a = tt
    go (could m w) a = λ e. (a e).0
    go (reached m) a = tt
of_first (after p g a h) = elim h [ ]
of_first (opens f) = λ e. refl
of_first (skips n c h) = elim h [ ]
of_first (barred p) = tt

-- What could stand where a token is taken is one of its class.
of_sample : {G : Grammar} {E : Examples G} {cap : ℕ → ℕ} {look : ℕ → Option G.Token} {c : G.Class} {rest : List (Symbol G.Class G.Rule)} {before : G.Value} {s i : ℕ} {x : Stop G.Token} → Stops G E cap look (mark c ∷ rest) before s i x → At i (λ w. w ≡ E.sample c) x
of_sample (wrong f) = tt
of_sample (deep l f d) = tt
of_sample (there l f) = tt
of_sample sample = λ e. refl
of_sample {E = E} {c = c} (later {i = i} {x = x} l f d h) = at_past i (λ w. w ≡ E.sample c) x (omega (arith, stands h))

pub at_map : {Token : Type 0} (k : ℕ) (ok ok' : Token → Type 0) (x : Stop Token) → ((w : Token) → ok w → ok' w) → At k ok x → At k ok' x
at_map k ok ok' (unexpected b m) f a = tt
at_map k ok ok' (too_deep m) f a = tt
at_map k ok ok' (could m w) f a = λ e. f w (a e)
at_map k ok ok' (reached m) f a = tt

at_shift : {Token : Type 0} (k m : ℕ) (ok : Token → Type 0) (x : Stop Token) → k ≤ m → m ≤ stop_place x → At m ok x → At k ok x
at_shift k m ok (unexpected b p) le st a = tt
at_shift k m ok (too_deep p) le st a = tt
at_shift k m ok (could p w) le st a = λ e. a (omega arith)
at_shift k m ok (reached p) le st a = tt

module _ (G : Grammar) (E : Examples G) (cap : ℕ → ℕ) (look : ℕ → Option G.Token) where
  -- a rule begins with the body that the next token chooses
  pub begin : (r : G.Rule) (s i : ℕ) (body : List (Symbol G.Class G.Rule)) → E.null r ≡ false → ((before : G.Value) → production G r before (look i) ≡ Some body) → Stage G E cap look r s i body (λ before. before) (λ vs. vs) i (enters G r s) (λ w. w ≡ E.first r)
  begin r s i body n p = record {
    reads = λ before vs j t h. part (p before) h nothing;
    stops = λ before x a h. inside (p before) (at_first G E r i x n a) h;
  }

  -- so does one that might be empty
  pub begin_full : (r : G.Rule) (s i : ℕ) (body : List (Symbol G.Class G.Rule)) → ((before : G.Value) → production G r before (look i) ≡ Some body) → Stage G E cap look r s i body (λ before. before) (λ vs. vs) i (enters G r s) (λ w. ⊥)
  begin_full r s i body p = record {
    reads = λ before vs j t h. part (p before) h nothing;
    stops = λ before x a h. inside (p before) (at_none G E r i x a) h;
  }

  pub take_token : {r : G.Rule} {s i k u : ℕ} {c : G.Class} {rest : List (Symbol G.Class G.Rule)} {prev : G.Value → G.Value} {done : List G.Value → List G.Value} {ok : G.Token → Type 0} (w : G.Token) → Stage G E cap look r s i (mark c ∷ rest) prev done k u ok → look k ≡ Some w → G.fits c w ≡ true → u ≤ cap k → Stage G E cap look r s i rest (λ before. G.leaf w) (λ vs. done (G.leaf w ∷ vs)) (k + 1) (u + G.weight c) (λ v. Unit {0})
  take_token {k = k} {ok = ok} w g l f d = record {
    reads = λ before vs j t h. g.reads before _ _ _ (token l f d h);
    stops = λ before x a h. g.stops before x (at_past k ok x (omega (arith, stands h))) (later l f d h);
  }

  pub take_rule : {r q : G.Rule} {s i k u m t : ℕ} {rest : List (Symbol G.Class G.Rule)} {prev : G.Value → G.Value} {done : List G.Value → List G.Value} {ok : G.Token → Type 0} {v : G.Value} → Stage G E cap look r s i (rule q ∷ rest) prev done k u ok → k < m → Gives G cap look q u k v m t → Stage G E cap look r s i rest (λ before. v) (λ vs. done (v ∷ vs)) m t (λ w. E.closes q w ≡ true)
  take_rule {q = q} {k = k} {m = m} {ok = ok} {v = v} g lt e = record {
    reads = λ before vs j t h. g.reads before _ _ _ (joins (e _) h);
    stops = λ before x a h. g.stops before x (at_past k ok x (omega (arith, stands h, lt))) (joins_stop (e _) (after_last G E q m x a) h);
  }

  -- a rule that may have been empty
  pub take_maybe : {r q : G.Rule} {s i k u m t : ℕ} {rest : List (Symbol G.Class G.Rule)} {prev : G.Value → G.Value} {done : List G.Value → List G.Value} {ok : G.Token → Type 0} {v : G.Value} → Stage G E cap look r s i (rule q ∷ rest) prev done k u ok → k ≤ m → Gives G cap look q u k v m t → Stage G E cap look r s i rest (λ before. v) (λ vs. done (v ∷ vs)) m t (λ w. ok w × (E.closes q w ≡ true))
  take_maybe {q = q} {k = k} {m = m} {ok = ok} {v = v} g le e = record {
    reads = λ before vs j t h. g.reads before _ _ _ (joins (e _) h);
    stops = λ before x a h. g.stops before x (at_shift k m ok x le (stands h) (at_map m _ ok x (λ w y. y.0) a)) (joins_stop (e _) (after_last G E q m x (at_map m _ (λ w. E.closes q w ≡ true) x (λ w y. y.1) a)) h);
  }

  pub finish : {r : G.Rule} {s i k u : ℕ} {prev : G.Value → G.Value} {done : List G.Value → List G.Value} {ok : G.Token → Type 0} → Stage G E cap look r s i [] prev done k u ok → Gives G cap look r s i (G.act r (done [])) k (leaves G r s u)
  finish g before = g.reads before [] _ _ nothing

  -- what the next symbols come to the rule comes to
  pub stop_here : {r : G.Rule} {s i k u : ℕ} {rest : List (Symbol G.Class G.Rule)} {prev : G.Value → G.Value} {done : List G.Value → List G.Value} {ok : G.Token → Type 0} → Stage G E cap look r s i rest prev done k u ok → (x : Stop G.Token) → At k ok x → ((before : G.Value) → Stops G E cap look rest before u k x) → Comes G E cap look r s i x
  stop_here g x a h before = g.stops before x a (h _)

  pub stop_rule : {r q : G.Rule} {s i k u : ℕ} {rest : List (Symbol G.Class G.Rule)} {prev : G.Value → G.Value} {done : List G.Value → List G.Value} {ok : G.Token → Type 0} → Stage G E cap look r s i (rule q ∷ rest) prev done k u ok → ok (E.first q) → (x : Stop G.Token) → Comes G E cap look q u k x → Comes G E cap look r s i x
  stop_rule {q = q} {k = k} {prev = prev} {ok = ok} g o x h before = g.stops before x (at_map k (λ w. w ≡ E.first q) ok x (λ w e. subst ok (sym e) o) (of_first (h (prev before)))) (weaken (h (prev before)))

  pub stop_mark : {r : G.Rule} {s i k u : ℕ} {c : G.Class} {rest : List (Symbol G.Class G.Rule)} {prev : G.Value → G.Value} {done : List G.Value → List G.Value} {ok : G.Token → Type 0} → Stage G E cap look r s i (mark c ∷ rest) prev done k u ok → ok (E.sample c) → (x : Stop G.Token) → ((before : G.Value) → Stops G E cap look (mark c ∷ rest) before u k x) → Comes G E cap look r s i x
  stop_mark {k = k} {c = c} {prev = prev} {ok = ok} g o x h before = g.stops before x (at_map k (λ w. w ≡ E.sample c) ok x (λ w e. subst ok (sym e) o) (of_sample (h (prev before)))) (h (prev before))

  -- ---- a rule that is read in part inside another one

  -- what the inner rule comes to past its first token the outer one comes to
  pub stop_mark_inside : {r q : G.Rule} {s i k u n t : ℕ} {c : G.Class} {rest more : List (Symbol G.Class G.Rule)} {prev prev' : G.Value → G.Value} {done done' : List G.Value → List G.Value} {ok ok' : G.Token → Type 0} → Stage G E cap look r s i (rule q ∷ rest) prev done k u ok → k < n → Stage G E cap look q u k (mark c ∷ more) prev' done' n t ok' → ok' (E.sample c) → (x : Stop G.Token) → ((before : G.Value) → Stops G E cap look (mark c ∷ more) before t n x) → Comes G E cap look r s i x
  stop_mark_inside {k = k} {prev = prev} {ok = ok} g lt y o x h before =
      g.stops before x (at_past k ok x (omega (arith, stands (h before), lt))) (weaken (stop_mark y o x h (prev before)))

  pub stop_rule_inside : {r q p : G.Rule} {s i k u n t : ℕ} {rest more : List (Symbol G.Class G.Rule)} {prev prev' : G.Value → G.Value} {done done' : List G.Value → List G.Value} {ok ok' : G.Token → Type 0} → Stage G E cap look r s i (rule q ∷ rest) prev done k u ok → k < n → Stage G E cap look q u k (rule p ∷ more) prev' done' n t ok' → ok' (E.first p) → (x : Stop G.Token) → Comes G E cap look p t n x → Comes G E cap look r s i x
  stop_rule_inside {k = k} {prev = prev} {ok = ok} g lt y o x h before =
      g.stops before x (at_past k ok x (omega (arith, stands (h before), lt))) (weaken (stop_rule y o x h (prev before)))

  -- the sum is past the limit at the first token of the inner rule
  pub stop_deep : {r q : G.Rule} {s i k u : ℕ} {c : G.Class} {w : G.Token} {rest more : List (Symbol G.Class G.Rule)} {prev : G.Value → G.Value} {done : List G.Value → List G.Value} {ok : G.Token → Type 0} → Stage G E cap look r s i (rule q ∷ rest) prev done k u ok → ((before : G.Value) → production G q before (look k) ≡ Some (mark c ∷ more)) → look k ≡ Some w → G.fits c w ≡ true → cap k < enters G q u → Comes G E cap look r s i (too_deep k)
  stop_deep {k = k} g p l f d before = g.stops before (too_deep k) tt (inside (p _) tt (deep l f d))

  -- ---- a rule that ends with a part of itself

  pub goes_on : {V : Type 0} {wrap : V → G.Value} {r q : G.Rule} {s i k u : ℕ} {prev : G.Value → G.Value} {done : List G.Value → List G.Value} {ok : G.Token → Type 0} {value : V → G.Value} → Stage G E cap look r s i (rule q ∷ []) prev done k u ok → ((os : V) → G.act r (done (wrap os ∷ [])) ≡ value os) → Goes V G wrap E cap look r q s i value k u ok
  goes_on {wrap = wrap} {r = r} {s = s} {i = i} {prev = prev} {done = done} {value = value} g e = record {
    reads = λ before os j t h. subst (λ v. Reads G cap look (rule r ∷ []) before s i (v ∷ []) j (leaves G r s t)) (e os) (g.reads before (wrap os ∷ []) j t (h (prev before)));
    stops = λ before x a h. g.stops before x a (h (prev before));
  }

  still : (q : G.Rule) (u t : ℕ) → G.counts q ≡ false → leaves G q u t ≡ t
  still q u t n = ap (λ (b : Bool). cond b u t) n

  still_open : (q : G.Rule) (u : ℕ) → G.counts q ≡ false → enters G q u ≡ u
  still_open q u n = ap (λ (b : Bool). cond b (u + 1) u) n

  -- nothing was read yet
  pub goes_first : {V : Type 0} (wrap : V → G.Value) (q : G.Rule) (u k : ℕ) → G.counts q ≡ false → Goes V G wrap E cap look q q u k wrap k u (λ w. Unit {0})
  goes_first wrap q u k n = record {
    reads = λ before os j t h. subst (λ m. Reads G cap look (rule q ∷ []) before u k (wrap os ∷ []) j m) (sym (still q u t n)) (h before);
    stops = λ before x a h. h before;
  }

  pub goes_more : {V : Type 0} {wrap : V → G.Value} {r q : G.Rule} {s i k u n t : ℕ} {prev : G.Value → G.Value} {done : List G.Value → List G.Value} {ok ok' : G.Token → Type 0} {value : V → G.Value} {push : V → V} → G.counts q ≡ false → Goes V G wrap E cap look r q s i value k u ok → k < n → Stage G E cap look q u k (rule q ∷ []) prev done n t ok' → ((os : V) → G.act q (done (wrap os ∷ [])) ≡ wrap (push os)) → Goes V G wrap E cap look r q s i (λ os. value (push os)) n t ok'
  goes_more {wrap = wrap} {q = q} {k = k} {u = u} {n = n} {t = t} {prev = prev} {done = done} {ok = ok} {push = push} c g lt y e = record {
    reads = λ before os j m h. g.reads before (push os) j m (λ b. subst (λ v. Reads G cap look (rule q ∷ []) b u k (v ∷ []) j m) (e os) (subst (λ z. Reads G cap look (rule q ∷ []) b u k (G.act q (done (wrap os ∷ [])) ∷ []) j z) (still q u m c) (y.reads b (wrap os ∷ []) j m (h (prev b)))));
    stops = λ before x a h. g.stops before x (at_past k ok x (omega (arith, stands (h before), lt))) (λ b. y.stops b x a (h (prev b)));
  }

  -- the part is empty
  pub goes_end : {V : Type 0} {wrap : V → G.Value} {r q : G.Rule} {s i k u : ℕ} {ok : G.Token → Type 0} {value : V → G.Value} (none : V) → G.counts q ≡ false → Goes V G wrap E cap look r q s i value k u ok → G.act q [] ≡ wrap none → ((before : G.Value) → production G q before (look k) ≡ Some []) → Gives G cap look r s i (value none) k (leaves G r s u)
  goes_end {wrap = wrap} {r = r} {q = q} {s = s} {k = k} {u = u} none c g e p before = g.reads before none k u (λ b. subst (λ v. Reads G cap look (rule q ∷ []) b u k (v ∷ []) k u) e (subst (λ z. Reads G cap look (rule q ∷ []) b u k (G.act q [] ∷ []) k z) (still q u (enters G q u) c ∙ still_open q u c) (part (p b) nothing nothing)))

  -- where the part stops after its first token
  pub goes_stop : {V : Type 0} {wrap : V → G.Value} {r q : G.Rule} {s i k u : ℕ} {ok : G.Token → Type 0} {value : V → G.Value} → Goes V G wrap E cap look r q s i value k u ok → (x : Stop G.Token) → At k ok x → Comes G E cap look q u k x → Comes G E cap look r s i x
  goes_stop g x a h before = g.stops before x a h

  -- what the part comes to past its first token, and where the sum is past the limit at that token
  pub goes_stop_mark : {V : Type 0} {wrap : V → G.Value} {r q : G.Rule} {s i k u n t : ℕ} {c : G.Class} {more : List (Symbol G.Class G.Rule)} {prev : G.Value → G.Value} {done : List G.Value → List G.Value} {ok ok' : G.Token → Type 0} {value : V → G.Value} → Goes V G wrap E cap look r q s i value k u ok → k < n → Stage G E cap look q u k (mark c ∷ more) prev done n t ok' → ok' (E.sample c) → (x : Stop G.Token) → ((before : G.Value) → Stops G E cap look (mark c ∷ more) before t n x) → Comes G E cap look r s i x
  goes_stop_mark {k = k} {ok = ok} g lt y o x h before =
      g.stops before x (at_past k ok x (omega (arith, stands (h before), lt))) (stop_mark y o x h)

  pub goes_stop_rule : {V : Type 0} {wrap : V → G.Value} {r q p : G.Rule} {s i k u n t : ℕ} {more : List (Symbol G.Class G.Rule)} {prev : G.Value → G.Value} {done : List G.Value → List G.Value} {ok ok' : G.Token → Type 0} {value : V → G.Value} → Goes V G wrap E cap look r q s i value k u ok → k < n → Stage G E cap look q u k (rule p ∷ more) prev done n t ok' → ok' (E.first p) → (x : Stop G.Token) → Comes G E cap look p t n x → Comes G E cap look r s i x
  goes_stop_rule {k = k} {ok = ok} g lt y o x h before =
      g.stops before x (at_past k ok x (omega (arith, stands (h before), lt))) (stop_rule y o x h)

  pub goes_stop_deep : {V : Type 0} {wrap : V → G.Value} {r q : G.Rule} {s i k u : ℕ} {c : G.Class} {w : G.Token} {more : List (Symbol G.Class G.Rule)} {ok : G.Token → Type 0} {value : V → G.Value} → Goes V G wrap E cap look r q s i value k u ok → ((before : G.Value) → production G q before (look k) ≡ Some (mark c ∷ more)) → look k ≡ Some w → G.fits c w ≡ true → cap k < enters G q u → Comes G E cap look r s i (too_deep k)
  goes_stop_deep {k = k} g p l f d before = g.stops before (too_deep k) tt (λ b. inside (p b) tt (deep l f d))
