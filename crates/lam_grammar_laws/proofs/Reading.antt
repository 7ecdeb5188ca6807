-- What is derived is read by the next token.
use Rattle.std.proofs.Common.{◌≡◌, ℕ, ◌+◌, ◌≤◌, inl, inr, Bool, true, false, cond, Option, Some, List, [], ◌∷◌, ◌++◌, length, refl, sym, ap, ◌∙◌, subst, arith, length-append}
use Rattle.lam_grammar_laws.specs.Grammar.{Symbol, Grammar, starts, pick, production, enters, leaves, Reads}
use Rattle.lam_grammar_laws.specs.Grammar as read
use Rattle.lam_grammar_laws.specs.Examples.{implies}
use Rattle.lam_grammar_laws.proofs.Tests.{some_starts}
use Rattle.lam_grammar_laws.proofs.Laws.{some_of}
use Rattle.lam_grammar_laws.proofs.Spelling.{both_left, both_right, both_of, implied, HasAt, has_front, has_back}
use Rattle.lam_grammar_laws.proofs.Bodies.{chosen}
use Rattle.lam_grammar_laws.specs.Deriving.{IsOneOf, first, later, MayStand, Derives, nothing, token, part}
use Rattle.lam_grammar_laws.specs.Follow.{Follows, opens, meets, followed_by, all_followed_by}
use Rattle.lam_grammar_laws.proofs.Passes.{Passes}
use Rattle.lam_grammar_laws.proofs.Choice.{is_not, either_left, either_right, shape, shape_open, begins_of, none_starts, picks, quiet_at, picks_empty, emptied}

module _ (G : Grammar) (F : Follows G) (P : Passes G F) where
  abbrev Body : Type 0
  Body = List (Symbol G.Class G.Rule)

  -- the first token of a text
  pub record Opened (p : Body) (text : List G.Token) : Type 0 where
    pub w : G.Token
    pub others : List G.Token
    pub is : text ≡ w ∷ others
    pub begins : starts G p (Some w) ≡ true

  opened : {p : Body} {before : G.Value} {text : List G.Token} {vs : List G.Value} → Derives G p before text vs → opens G F p ≡ true → Opened p text
  opened nothing o = cc
  opened (token {w = w} {text = text} f h) o = record { w = w; others = text; is = refl; begins = f }
  opened (part {r = r} {body = body} {more = more} a m h g) o =
      let open_body : opens G F body ≡ true = shape_open G F (G.bodies r) (F.null r) a (P.opening r) (is_not (F.null r) o) in
      let x = opened h open_body in
      record { w = x.w; others = x.others ++ more; is = ap (λ (t : List G.Token). t ++ more) x.is; begins = begins_of G F r x.w (P.telling r x.w) a open_body x.begins }

  no_text : {p : Body} {before : G.Value} {text : List G.Token} {vs : List G.Value} → Derives G p before text vs → p ≡ [] → text ≡ []
  no_text nothing e = refl
  no_text (token f h) e = cc
  no_text (part a m h g) e = cc

  first_there : {p : Body} {text : List G.Token} (look : ℕ → Option G.Token) (i : ℕ) → HasAt look i text → (x : Opened p text) → look i ≡ Some x.w
  first_there look i has x = (subst (HasAt look i) x.is has).0

  same_fit : (c : G.Class) {v w : G.Token} {o : Option G.Token} → o ≡ Some v → o ≡ Some w → G.fits c v ≡ true → G.fits c w ≡ true
  same_fit c {v} {w} a b f = subst (λ (x : G.Token). G.fits c x ≡ true) (some_of (sym a ∙ b)) f

  same_begin : (r : G.Rule) {v w : G.Token} {o : Option G.Token} → o ≡ Some v → o ≡ Some w → G.begins r v ≡ true → G.begins r w ≡ true
  same_begin r {v} {w} a b f = subst (λ (x : G.Token). G.begins r x ≡ true) (some_of (sym a ∙ b)) f

  -- The next token is met by the symbols.
  met : {p : Body} {before : G.Value} {text : List G.Token} {vs : List G.Value} → Derives G p before text vs → (look : ℕ → Option G.Token) (i j : ℕ) → HasAt look i text → i + length text ≡ j → (after : Bool) (w : G.Token) → look i ≡ Some w → (look j ≡ Some w → after ≡ true) → meets G F p after w ≡ true
  met nothing look i j has e after w l a = let q : i ≡ j = omega arith in a (ap look (sym q) ∙ l)
  met (token {c = c} f h) look i j has e after w l a = same_fit c has.0 l f
  met (part {r = r} {body = body} {rest = rest} {text = text} {more = more} b m h g) look i j has e after w l a =
      elim (shape G F (G.bodies r) b (P.opening r)) [
        | inl x ↦
            let none : text ≡ [] = no_text h x.0 in
            let all : text ++ more ≡ more = ap (λ (t : List G.Token). t ++ more) none in
            let rest_met : meets G F rest after w ≡ true = met g look i j (subst (HasAt look i) all has) (omega (arith, ap length all)) after w l a in
            either_right (G.begins r w) _ (both_of _ _ x.1 rest_met)
        | inr o ↦
            let x = opened h o in
            let there : look i ≡ Some x.w = first_there look i (has_front look i text more has) x in
            either_left (G.begins r w) _ (same_begin r there l (begins_of G F r x.w (P.telling r x.w) b o x.begins))
      ]

  one_followed : {body : Body} (all : List Body) (after : Bool) (w : G.Token) → IsOneOf body all → all_followed_by G F all after w ≡ true → followed_by G F body after w ≡ true
  one_followed [] after w a h = elim a [ ]
  one_followed (body ∷ more) after w first h = both_left _ _ h
  one_followed (body ∷ more) after w (later a) h = one_followed more after w a (both_right (followed_by G F body after w) _ h)

  body_followed : (r : G.Rule) {body : Body} → IsOneOf body (G.bodies r) → (w : G.Token) → followed_by G F body (F.follows r w) w ≡ true
  body_followed r a w = one_followed (G.bodies r) (F.follows r w) w a (both_right (implies (F.null r) (implies (F.follows r w) (cond (G.begins r w) false true))) _ (P.parting r w))

  not_begun : (r : G.Rule) (w : G.Token) → F.null r ≡ true → F.follows r w ≡ true → G.begins r w ≡ false
  not_begun r w n f = is_not (G.begins r w) (implied _ _ (implied _ _ (both_left _ _ (P.parting r w)) n) f)

  -- the body is the one that is read before the token at i
  produced : (look : ℕ → Option G.Token) (i k : ℕ) (r : G.Rule) (before : G.Value) {body : Body} {text : List G.Token} {us : List G.Value} → IsOneOf body (G.bodies r) → MayStand G r before body → Derives G body before text us → HasAt look i text → i + length text ≡ k → ((w : G.Token) → look k ≡ Some w → F.follows r w ≡ true) → production G r before (look i) ≡ Some body
  produced look i k r before {body} {text} a m h has e next =
      elim (shape G F (G.bodies r) a (P.opening r)) [
        | inl x ↦
            let q : i ≡ k = omega (arith, ap length (no_text h x.0)) in
            let still = quiet_at G F (G.bodies r) (look i) (λ w l. none_starts G F r w (P.telling r w) (not_begun r w x.1 (next w (ap look (sym q) ∙ l)))) in
            emptied (G.permits r before) (pick G (G.bodies r) (look i)) (picks_empty G F (F.null r) (G.bodies r) (look i) (subst (λ (b : Body). IsOneOf b (G.bodies r)) x.0 a) (P.opening r) still) ∙ ap Some (sym x.0)
        | inr o ↦
            let x = opened h o in
            let there : look i ≡ Some x.w = first_there look i has x in
            let picked : pick G (G.bodies r) (look i) ≡ body = ap (pick G (G.bodies r)) there ∙ picks G F (G.bodies r) x.w a o x.begins (both_right (cond (G.begins r x.w) (some_starts G (G.bodies r) x.w) (cond (some_starts G (G.bodies r) x.w) false true)) _ (P.telling r x.w)) in
            chosen G r before (look i) (permitted o m) picked
      ]
    where
      permitted : opens G F body ≡ true → MayStand G r before body → G.permits r before ≡ true
      permitted o (inl p) = p
      permitted o (inr n) = let x = ap (opens G F) n in cc

  -- the symbols are read, if the cap is no less than some number
  pub record Bounded (look : ℕ → Option G.Token) (p : Body) (before : G.Value) (s i : ℕ) (vs : List G.Value) (j : ℕ) : Type 0 where
    pub need : ℕ
    pub t : ℕ
    pub reads : (cap : ℕ → ℕ) → ((m : ℕ) → need ≤ cap m) → Reads G cap look p before s i vs j t

  -- What is derived is read, where behind it stands only what may stand there.
  pub reads_of : {p : Body} {before : G.Value} {text : List G.Token} {vs : List G.Value} → Derives G p before text vs → (look : ℕ → Option G.Token) (s i j : ℕ) → HasAt look i text → i + length text ≡ j → (after : G.Token → Bool) → ((w : G.Token) → look j ≡ Some w → after w ≡ true) → ((w : G.Token) → followed_by G F p (after w) w ≡ true) → Bounded look p before s i vs j
  reads_of (nothing {before}) look s i j has e after a f =
      let q : i ≡ j = omega arith in
      subst (λ m. Bounded look [] before s i [] m) q (record { need = 0; t = s; reads = λ cap h. read.nothing })
  reads_of (token {c = c} {text = text} q h) look s i j has e after a f =
      let x = reads_of h look (s + G.weight c) (i + 1) j has.1 (omega arith) after a f in
      record {
        need = s + x.need;
        t = x.t;
        reads = λ cap b. read.token has.0 q (omega (arith, b i)) (x.reads cap (λ m. omega (arith, b m)));
      }
  reads_of (part {r = r} {body = body} {rest = rest} {before = before} {text = text} {more = more} b m h g) look s i j has e after a f =
      let k : ℕ = i + length text in
      let front : HasAt look i text = has_front look i text more has in
      let back : HasAt look k more = has_back look i k text more refl has in
      let to_end : k + length more ≡ j = omega (arith, length-append text more) in
      let next : (w : G.Token) → look k ≡ Some w → F.follows r w ≡ true = λ w l. implied _ _ (both_left _ _ (f w)) (met g look k j back to_end (after w) w l (a w)) in
      let x = reads_of h look (enters G r s) i k front refl (F.follows r) next (body_followed r b) in
      let y = reads_of g look (leaves G r s x.t) k j back to_end after a (λ w. both_right (implies (meets G F rest (after w) w) (F.follows r w)) _ (f w)) in
      record {
        need = x.need + y.need;
        t = y.t;
        reads = λ cap c. read.part (produced look i k r before b m h front refl next) (x.reads cap (λ n. omega (arith, c n))) (y.reads cap (λ n. omega (arith, c n)));
      }
