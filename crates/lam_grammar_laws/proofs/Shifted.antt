-- What is read of the tokens from one on is read of all of them, later by as many as stand before it.
use Rattle.std.proofs.Common.{◌≡◌, ℕ, ◌+◌, ◌<◌, ◌≤◌, Option, List, sym, ap, ◌∙◌, subst, add_assoc, arith}
use Rattle.lam_grammar_laws.specs.Grammar.{Symbol, Grammar, production, Reads, nothing, token, part}
use Rattle.lam_grammar_laws.specs.Examples.{Examples}
use Rattle.lam_grammar_laws.specs.Stopping.{Stop, unexpected, too_deep, could, reached, fits_next, AtFirst, AfterLast, Stops, wrong, deep, there, sample, opens, skips, later, inside, after, barred}

-- the same stop, so many tokens later
abbrev pub stop_later : {Token : Type 0} → ℕ → Stop Token → Stop Token
stop_later n (unexpected b m) = unexpected b (n + m)
stop_later n (too_deep m) = too_deep (n + m)
stop_later n (could m w) = could (n + m) w
stop_later n (reached m) = reached (n + m)

first_later : (G : Grammar) (E : Examples G) (r : G.Rule) (n i : ℕ) (x : Stop G.Token) → AtFirst G E r i x → AtFirst G E r (n + i) (stop_later n x)
first_later G E r n i (unexpected b m) a = tt
first_later G E r n i (too_deep m) a = tt
first_later G E r n i (could m w) a = λ e. a (omega arith)
first_later G E r n i (reached m) a = tt

last_later : (G : Grammar) (E : Examples G) (r : G.Rule) (n k : ℕ) (x : Stop G.Token) → AfterLast G E r k x → AfterLast G E r (n + k) (stop_later n x)
last_later G E r n k (unexpected b m) a = tt
last_later G E r n k (too_deep m) a = tt
last_later G E r n k (could m w) a = λ e. a (omega arith)
last_later G E r n k (reached m) a = tt

-- `left` is what `look` sees of the tokens from n on, with the same limits.
module _ (G : Grammar) (E : Examples G) (cap : ℕ → ℕ) (look : ℕ → Option G.Token) (n : ℕ) (limits : ℕ → ℕ) (left : ℕ → Option G.Token) (same : (i : ℕ) → left i ≡ look (n + i)) (caps : (i : ℕ) → limits i ≡ cap (n + i)) where
  produced : (r : G.Rule) (before : G.Value) (i : ℕ) {body : Option (List (Symbol G.Class G.Rule))} → production G r before (left i) ≡ body → production G r before (look (n + i)) ≡ body
  produced r before i p = ap (production G r before) (sym (same i)) ∙ p

  pub reads_later : {p : List (Symbol G.Class G.Rule)} {before : G.Value} {s i j t : ℕ} {vs : List G.Value} → Reads G limits left p before s i vs j t → Reads G cap look p before s (n + i) vs (n + j) t
  reads_later nothing = nothing
  reads_later (token {c = c} {rest = rest} {s = s} {i = i} {j = j} {t = t} {w = w} {vs = vs} l f d h) =
      token (sym (same i) ∙ l) f (subst (λ m. s ≤ m) (caps i) d) (subst (λ m. Reads G cap look rest (G.leaf w) (s + G.weight c) m vs (n + j) t) (sym (add_assoc n i 1)) (reads_later h))
  reads_later (part {r = r} {before = before} {i = i} p h g) = part (produced r before i p) (reads_later h) (reads_later g)

  pub stops_later : {p : List (Symbol G.Class G.Rule)} {before : G.Value} {s i : ℕ} {x : Stop G.Token} → Stops G E limits left p before s i x → Stops G E cap look p before s (n + i) (stop_later n x)
  stops_later (wrong {c = c} {i = i} f) = wrong (ap (fits_next G c) (sym (same i)) ∙ f)
  stops_later (deep {s = s} {i = i} l f d) = deep (sym (same i) ∙ l) f (subst (λ m. m < s) (caps i) d)
  stops_later (there {i = i} l f) = there (sym (same i) ∙ l) f
  stops_later sample = sample
  stops_later (opens f) = opens f
  stops_later (skips m c h) = skips m c (stops_later h)
  stops_later (later {c = c} {rest = rest} {s = s} {i = i} {w = w} {x = x} l f d h) =
      later (sym (same i) ∙ l) f (subst (λ m. s ≤ m) (caps i) d) (subst (λ m. Stops G E cap look rest (G.leaf w) (s + G.weight c) m (stop_later n x)) (sym (add_assoc n i 1)) (stops_later h))
  stops_later (inside {r = r} {before = before} {i = i} {x = x} p a h) = inside (produced r before i p) (first_later G E r n i x a) (stops_later h)
  stops_later (after {r = r} {before = before} {i = i} {k = k} {x = x} p g a h) = after (produced r before i p) (reads_later g) (last_later G E r n k x a) (stops_later h)
  stops_later (barred {r = r} {before = before} {i = i} p) = barred (produced r before i p)
