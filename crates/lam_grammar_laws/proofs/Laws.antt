-- Symbols are read in one way, and what stops is never read.
use Rattle.std.proofs.Common.{◌≡◌, ℕ, ◌+◌, ◌<◌, ◌≤◌, Bool, true, false, cond, Option, Some, None, List, [], ◌∷◌, refl, sym, ap, ◌∙◌, subst, arith}
use Rattle.lam_grammar_laws.specs.Grammar.{Symbol, mark, rule, Grammar, pick, is_empty, production, leaves, Reads, nothing, token, part, free}
use Rattle.lam_grammar_laws.specs.Examples.{Examples}
use Rattle.lam_grammar_laws.specs.Stopping.{Stop, unexpected, too_deep, could, reached, stop_place, fits_next, Stops, wrong, deep, there, sample, opens, skips, later, inside, after, barred}

-- two texts begin with the same n tokens
abbrev pub Same : (G : Grammar) → (ℕ → Option G.Token) → (ℕ → Option G.Token) → ℕ → Type 0
Same G look look' n = (j : ℕ) → j < n → look' j ≡ look j

abbrev pub Alike : (G : Grammar) → List G.Value → ℕ → ℕ → List G.Value → ℕ → ℕ → Type 0
Alike G vs j t vs' j' t' = ◌≡◌ {A = List G.Value × ℕ × ℕ} (vs, j, t) (vs', j', t')

pub grows : {G : Grammar} {cap : ℕ → ℕ} {look : ℕ → Option G.Token} {p : List (Symbol G.Class G.Rule)} {before : G.Value} {s i j t : ℕ} {vs : List G.Value} → Reads G cap look p before s i vs j t → i ≤ j
grows nothing = omega arith
grows (token l f d h) = omega (arith, grows h)
grows (part p h g) = omega (arith, grows h, grows g)

pub some_of : {A : Type 0} {a b : A} → Some a ≡ Some b → a ≡ b
some_of e = cc

module _ (G : Grammar) where
  one : {A : Type 0} {o o' : Option A} {v w : A} → o' ≡ o → o ≡ Some v → o' ≡ Some w → w ≡ v
  one q l l' = cc

  body_once : (r : G.Rule) (before : G.Value) {o o' : Option G.Token} {p p' : List (Symbol G.Class G.Rule)} → o' ≡ o → production G r before o ≡ Some p → production G r before o' ≡ Some p' → p' ≡ p
  body_once r before q a b = some_of (sym b ∙ ap (production G r before) q ∙ a)

  move_token : {cap : ℕ → ℕ} {look : ℕ → Option G.Token} {p : List (Symbol G.Class G.Rule)} {s i j t : ℕ} {v w : G.Token} {vs : List G.Value} → w ≡ v → Reads G cap look p (G.leaf w) s i vs j t → Reads G cap look p (G.leaf v) s i vs j t
  move_token {cap} {look} {p} {s} {i} {j} {t} {v} {w} {vs} q h = subst (λ (x : G.Token). Reads G cap look p (G.leaf x) s i vs j t) q h

  move_body : {cap : ℕ → ℕ} {look : ℕ → Option G.Token} {p q : List (Symbol G.Class G.Rule)} {before : G.Value} {s i j t : ℕ} {vs : List G.Value} → q ≡ p → Reads G cap look q before s i vs j t → Reads G cap look p before s i vs j t
  move_body {cap} {look} {p} {q} {before} {s} {i} {j} {t} {vs} e h = subst (λ (x : List (Symbol G.Class G.Rule)). Reads G cap look x before s i vs j t) e h

  move_after : {cap : ℕ → ℕ} {look : ℕ → Option G.Token} {p : List (Symbol G.Class G.Rule)} (r : G.Rule) (s : ℕ) {k k' u u' j t : ℕ} {us us' vs : List G.Value} → Alike G us k u us' k' u' → Reads G cap look p (G.act r us') (leaves G r s u') k' vs j t → Reads G cap look p (G.act r us) (leaves G r s u) k vs j t
  move_after {cap} {look} {p} r s {j = j} {t = t} {vs = vs} q h = subst (λ (x : List G.Value × ℕ × ℕ). Reads G cap look p (G.act r x.0) (leaves G r s x.2) x.1 vs j t) (sym q) h

  alike_token : {v w : G.Token} {vs vs' : List G.Value} {j t j' t' : ℕ} → w ≡ v → Alike G vs j t vs' j' t' → Alike G (G.leaf v ∷ vs) j t (G.leaf w ∷ vs') j' t'
  alike_token {vs = vs} {vs' = vs'} {j = j} {t = t} {j' = j'} {t' = t'} q e =
      let a : vs ≡ vs' = ap (λ (x : List G.Value × ℕ × ℕ). x.0) e in
      let b : j ≡ j' = ap (λ (x : List G.Value × ℕ × ℕ). x.1) e in
      let c : t ≡ t' = ap (λ (x : List G.Value × ℕ × ℕ). x.2) e in
      cc

  alike_part : (r : G.Rule) {us us' vs vs' : List G.Value} {k k' u u' j t j' t' : ℕ} → Alike G us k u us' k' u' → Alike G vs j t vs' j' t' → Alike G (G.act r us ∷ vs) j t (G.act r us' ∷ vs') j' t'
  alike_part r {us} {us'} {vs} {vs'} {j = j} {t = t} {j' = j'} {t' = t'} q e =
      let f : us ≡ us' = ap (λ (x : List G.Value × ℕ × ℕ). x.0) q in
      let a : vs ≡ vs' = ap (λ (x : List G.Value × ℕ × ℕ). x.0) e in
      let b : j ≡ j' = ap (λ (x : List G.Value × ℕ × ℕ). x.1) e in
      let c : t ≡ t' = ap (λ (x : List G.Value × ℕ × ℕ). x.2) e in
      cc

-- Two texts that are the same as far as the token after the symbols have the same symbols there.
pub once : {G : Grammar} {cap cap' : ℕ → ℕ} {look look' : ℕ → Option G.Token} {p : List (Symbol G.Class G.Rule)} {before : G.Value} {s i j t j' t' : ℕ} {vs vs' : List G.Value} → Reads G cap look p before s i vs j t → Same G look look' (j + 1) → Reads G cap' look' p before s i vs' j' t' → Alike G vs j t vs' j' t'
once nothing same nothing = refl
once {G} (token {i = i} {w = w} l f d h) same (token l' f' d' h') =
    let q = one G (same i (omega (arith, grows h))) l l' in
    alike_token G q (once h same (move_token G q h'))
once {G} (part {r = r} {before = before} {s = s} {i = i} p h g) same (part p' h' g') =
    let a = grows h in
    let b = grows g in
    let q = body_once G r before (same i (omega arith)) p p' in
    let e = once h (λ m l. same m (omega arith)) (move_body G q h') in
    let f = once g same (move_after G r s e g') in
    alike_part G r e f

abbrev pub Capped : {Token : Type 0} → (ℕ → ℕ) → (ℕ → ℕ) → Stop Token → Type 0
Capped cap cap' (unexpected b m) = Unit {0}
Capped cap cap' (too_deep m) = cap' m ≤ cap m
Capped cap cap' (could m w) = ⊥
Capped cap cap' (reached m) = ⊥

pub stands : {G : Grammar} {E : Examples G} {cap : ℕ → ℕ} {look : ℕ → Option G.Token} {p : List (Symbol G.Class G.Rule)} {before : G.Value} {s i : ℕ} {x : Stop G.Token} → Stops G E cap look p before s i x → i ≤ stop_place x
stands (wrong f) = omega arith
stands (deep l f d) = omega arith
stands (there l f) = omega arith
stands (later l f d h) = omega (arith, stands h)
stands (inside p a h) = stands h
stands (after p g a h) = omega (arith, grows g, stands h)
stands sample = omega arith
stands (opens f) = omega arith
stands (skips n c h) = omega arith
stands (barred p) = omega arith

-- What stops at a token is not read in any text that is the same as far as that token.
pub never : {G : Grammar} {E : Examples G} {cap cap' : ℕ → ℕ} {look look' : ℕ → Option G.Token} {p : List (Symbol G.Class G.Rule)} {before : G.Value} {s i j' t' : ℕ} {vs' : List G.Value} {x : Stop G.Token} → Stops G E cap look p before s i x → Same G look look' (stop_place x + 1) → Capped cap cap' x → Reads G cap' look' p before s i vs' j' t' → ⊥
never {G} (wrong {c = c} {i = i} f) same n (token l' f' d' h') =
    let e = ap (fits_next G c) (sym l' ∙ same i (omega arith)) in
    cc
never (deep l f d) same n (token l' f' d' h') = omega (arith, d, d', n)
never (there l f) same n r = n
never sample same n r = n
never (opens f) same n r = n
never (skips m c h) same n r = n
never {G} (later {i = i} l f d h) same n (token l' f' d' h') =
    never h same n (move_token G (one G (same i (omega (arith, stands h))) l l') h')
never {G} (inside {r = r} {before = before} {i = i} p a h) same n (part p' h' g') =
    never h same n (move_body G (body_once G r before (same i (omega (arith, stands h))) p p') h')
never {G} (after {r = r} {before = before} {s = s} {i = i} p g a h) same n (part p' h' g') =
    let a = grows g in
    let b = stands h in
    let q = body_once G r before (same i (omega arith)) p p' in
    let e = once g (λ m l. same m (omega arith)) (move_body G q h') in
    never h same n (move_after G r s e g')
never {G} (barred {r = r} {before = before} {i = i} p) same n (part p' h' g') =
    let e = ap (production G r before) (same i (omega arith)) in
    cc

-- ---- where each rule may stand after each value

pub free_production : (G : Grammar) (r : G.Rule) (before : G.Value) (o : Option G.Token) (body : List (Symbol G.Class G.Rule)) → production G r before o ≡ Some body → pick G (G.bodies r) o ≡ body
free_production G r before o body p = go (G.permits r before) (pick G (G.bodies r) o) p
  where
    shut : (q : List (Symbol G.Class G.Rule)) → cond (is_empty q) (Some []) None ≡ Some body → q ≡ body
    shut [] e = some_of e
    shut (x ∷ xs) e = cc

    go : (t : Bool) (q : List (Symbol G.Class G.Rule)) → cond t (Some q) (cond (is_empty q) (Some []) None) ≡ Some body → q ≡ body
    go true q e = some_of e
    go false q e = shut q e

pub free_pick : (G : Grammar) (all : List (List (Symbol G.Class G.Rule))) (o : Option G.Token) → pick (free G) all o ≡ pick G all o
free_pick G [] o = refl
free_pick G (body ∷ []) o = refl
free_pick G (body ∷ other ∷ more) o = again body (free_pick G (other ∷ more) o)
  where
    again : (body : List (Symbol G.Class G.Rule)) → pick (free G) (other ∷ more) o ≡ pick G (other ∷ more) o → pick (free G) (body ∷ other ∷ more) o ≡ pick G (body ∷ other ∷ more) o
    again [] e = refl
    again (mark c ∷ rest) e = elim o as (λ o'. pick (free G) (other ∷ more) o' ≡ pick G (other ∷ more) o' → pick (free G) ((mark c ∷ rest) ∷ other ∷ more) o' ≡ pick G ((mark c ∷ rest) ∷ other ∷ more) o') [ None ↦ λ q. q | Some w ↦ λ q. ap (cond (G.fits c w) (mark c ∷ rest)) q ] e
    again (rule r ∷ rest) e = elim o as (λ o'. pick (free G) (other ∷ more) o' ≡ pick G (other ∷ more) o' → pick (free G) ((rule r ∷ rest) ∷ other ∷ more) o' ≡ pick G ((rule r ∷ rest) ∷ other ∷ more) o') [ None ↦ λ q. q | Some w ↦ λ q. ap (cond (G.begins r w) (rule r ∷ rest)) q ] e

pub freed : (G : Grammar) (r : G.Rule) (before : G.Value) (o : Option G.Token) (body : List (Symbol G.Class G.Rule)) → production G r before o ≡ Some body → production (free G) r before o ≡ Some body
freed G r before o body p = ap Some (free_pick G (G.bodies r) o ∙ free_production G r before o body p)

pub free_reads : {G : Grammar} {cap : ℕ → ℕ} {look : ℕ → Option G.Token} {p : List (Symbol G.Class G.Rule)} {before : G.Value} {s i j t : ℕ} {vs : List G.Value} → Reads G cap look p before s i vs j t → Reads (free G) cap look p before s i vs j t
free_reads nothing = nothing
free_reads (token l f d h) = token l f d (free_reads h)
free_reads {G} (part {r = r} {body = body} {before = before} p h g) = part (freed G r before _ body p) (free_reads h) (free_reads g)

-- What stops at a wrong token that is not barred is not read there either.
pub never_free : {G : Grammar} {E : Examples G} {cap cap' : ℕ → ℕ} {look look' : ℕ → Option G.Token} {p : List (Symbol G.Class G.Rule)} {before : G.Value} {s i j' t' m : ℕ} {vs' : List G.Value} → Stops G E cap look p before s i (unexpected false m) → Same G look look' (m + 1) → Reads (free G) cap' look' p before s i vs' j' t' → ⊥
never_free {G} (wrong {c = c} {i = i} f) same (token l' f' d' h') =
    let e = ap (fits_next G c) (sym l' ∙ same i (omega arith)) in
    cc
never_free {G} (later {i = i} l f d h) same (token l' f' d' h') =
    never_free h same (move_token (free G) (one G (same i (omega (arith, stands h))) l l') h')
never_free {G} (inside {r = r} {body = body} {before = before} {i = i} p a h) same (part p' h' g') =
    never_free h same (move_body (free G) (body_once (free G) r before (same i (omega (arith, stands h))) (freed G r before _ body p) p') h')
never_free {G} (after {r = r} {body = body} {before = before} {s = s} {i = i} p g a h) same (part p' h' g') =
    let a = grows g in
    let b = stands h in
    let q = body_once (free G) r before (same i (omega arith)) (freed G r before _ body p) p' in
    let e = once (free_reads g) (λ m l. same m (omega arith)) (move_body (free G) q h') in
    never_free h same (move_after (free G) r s e g')
