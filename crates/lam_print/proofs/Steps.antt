-- How the printer's steps make a whole.
use Rattle.std.proofs.Common.{◌≡◌, ℕ, ◌+◌, ◌<◌, ◌≤◌, nat_lt, cond, Bool, true, false, List, [], ◌∷◌, ◌++◌, Result, Ok, Err, OnOk, length, get_or, drop, refl, sym, ap, ◌∙◌, subst, arith, append_assoc}
use Rattle.std.proofs.lemmas.List.{drop_more, drop_all}
use Rattle.std.proofs.lemmas.Bool.{lt-ltb}
use Rattle.lam_lexer.specs.declared.token.TokenKind.TheVariants as Kind
use Rattle.lam_syntax.specs.Tree.{CapTree}
use Rattle.lam_print.specs.Canon as canon
use Rattle.lam_print.specs.Pieces.{Piece, token, spelling, written}
use Rattle.lam_print.specs.Printing.{Puts}

-- a text that was written
pub said : (old text : List ℕ) {new : List ℕ} → new ≡ old ++ text → (rest : List ℕ) → old ++ (text ++ rest) ≡ new ++ rest
said old text {new} e rest = sym (append_assoc old text rest) ∙ ap (λ (x : List ℕ). x ++ rest) (sym e)

-- the pieces of equal trees
pub puts_of : {X : Type 0} {old new : List ℕ} (f : X → List Piece → List Piece) {a b : X} → a ≡ b → Puts old new (f b) → Puts old new (f a)
puts_of {X} {old} {new} f e p = subst (λ (x : X). Puts old new (f x)) (sym e) p

pub on_ok : {A E : Type 0} (r : Result A E) {P Q : Type 0} → (P → Q) → OnOk r P → OnOk r Q
on_ok (Ok a) f p = f p
on_ok (Err e) f p = p

-- ---- lists

-- What was written of a list, with what is left of it, is the whole. The flag says whether an item stands before.
pub record ListedSoFar {X : Type 0} (f : Bool → List X → List Piece → List Piece) (xs : List X) (old now : List ℕ) (i : ℕ) : Type 0 where
  pub gives : (ps : List Piece) → old ++ written (f false xs ps) ≡ now ++ written (f (nat_lt 0 i) (drop i xs) ps)

-- each item comes after what stands between items
pub record IsListed {X : Type 0} (between : Bool → List Piece → List Piece) (one : X → List Piece → List Piece) (f : Bool → List X → List Piece → List Piece) : Type 0 where
  pub nothing : (later : Bool) (ps : List Piece) → f later [] ps ≡ ps
  pub more : (later : Bool) (x : X) (xs : List X) (ps : List Piece) → f later (x ∷ xs) ps ≡ between later (one x (f true xs ps))

pub listed_more : {X : Type 0} {between : Bool → List Piece → List Piece} {one : X → List Piece → List Piece} {f : Bool → List X → List Piece → List Piece} → IsListed between one f → (xs : List X) {old now mid next : List ℕ} (i : ℕ) (x : X) → i < length xs → x ≡ get_or xs i x → Puts now mid (between (nat_lt 0 i)) → Puts mid next (one x) → ListedSoFar f xs old now i → ListedSoFar f xs old next (i + 1)
listed_more {X} {between} {one} {f} l xs {old} {now} {mid} {next} i x h e a b g =
    let d : drop i xs ≡ x ∷ drop (i + 1) xs = drop_more xs i x h ∙ ap (λ (z : X). z ∷ drop (i + 1) xs) (sym e) in
    let t : true ≡ nat_lt 0 (i + 1) = sym (lt-ltb 0 (i + 1) (omega arith)) in
    record {
      gives = λ ps.
          let rest = f true (drop (i + 1) xs) ps in
          g.gives ps
          ∙ ap (λ (ys : List X). now ++ written (f (nat_lt 0 i) ys ps)) d
          ∙ ap (λ (qs : List Piece). now ++ written qs) (l.more (nat_lt 0 i) x (drop (i + 1) xs) ps)
          ∙ a.gives (one x rest)
          ∙ b.gives rest
          ∙ ap (λ (later : Bool). next ++ written (f later (drop (i + 1) xs) ps)) t;
    }

pub listed_last : {X : Type 0} {between : Bool → List Piece → List Piece} {one : X → List Piece → List Piece} {f : Bool → List X → List Piece → List Piece} → IsListed between one f → (xs : List X) {old now : List ℕ} (i : ℕ) → length xs ≤ i → ListedSoFar f xs old now i → Puts old now (f false xs)
listed_last {X} {between} {one} {f} l xs {old} {now} i h g =
    record { gives = λ ps. g.gives ps ∙ ap (λ (ys : List X). now ++ written (f (nat_lt 0 i) ys ps)) (drop_all i xs h) ∙ ap (λ (qs : List Piece). now ++ written qs) (l.nothing (nat_lt 0 i) ps) }

-- the same, where nothing stands between
pub record EachSoFar {X : Type 0} (f : List X → List Piece → List Piece) (xs : List X) (old now : List ℕ) (i : ℕ) : Type 0 where
  pub gives : (ps : List Piece) → old ++ written (f xs ps) ≡ now ++ written (f (drop i xs) ps)

pub record IsEach {X : Type 0} (one : X → List Piece → List Piece) (f : List X → List Piece → List Piece) : Type 0 where
  pub nothing : (ps : List Piece) → f [] ps ≡ ps
  pub more : (x : X) (xs : List X) (ps : List Piece) → f (x ∷ xs) ps ≡ one x (f xs ps)

pub each_first : {X : Type 0} (f : List X → List Piece → List Piece) (xs : List X) (now : List ℕ) → EachSoFar f xs now now 0
each_first f xs now = record { gives = λ ps. refl }

pub each_more : {X : Type 0} {one : X → List Piece → List Piece} {f : List X → List Piece → List Piece} → IsEach one f → (xs : List X) {old now next : List ℕ} (i : ℕ) (x : X) → i < length xs → x ≡ get_or xs i x → Puts now next (one x) → EachSoFar f xs old now i → EachSoFar f xs old next (i + 1)
each_more {X} {one} {f} l xs {old} {now} {next} i x h e b g =
    let d : drop i xs ≡ x ∷ drop (i + 1) xs = drop_more xs i x h ∙ ap (λ (z : X). z ∷ drop (i + 1) xs) (sym e) in
    record {
      gives = λ ps.
          g.gives ps
          ∙ ap (λ (ys : List X). now ++ written (f ys ps)) d
          ∙ ap (λ (qs : List Piece). now ++ written qs) (l.more x (drop (i + 1) xs) ps)
          ∙ b.gives (f (drop (i + 1) xs) ps);
    }

pub each_last : {X : Type 0} {one : X → List Piece → List Piece} {f : List X → List Piece → List Piece} → IsEach one f → (xs : List X) {old now : List ℕ} (i : ℕ) → length xs ≤ i → EachSoFar f xs old now i → Puts old now (f xs)
each_last {X} {one} {f} l xs {old} {now} i h g =
    record { gives = λ ps. g.gives ps ∙ ap (λ (ys : List X). now ++ written (f ys ps)) (drop_all i xs h) ∙ ap (λ (qs : List Piece). now ++ written qs) (l.nothing ps) }

-- ---- the arms of a tree

-- what was written before the last step, and the last step, which writes a text
pub last_text : {E : Type 0} (old mid new text : List ℕ) (f : List Piece → List Piece) (r : Result (Unit {0}) E) → ((ps : List Piece) → old ++ written (f ps) ≡ mid ++ (text ++ written ps)) → OnOk r (new ≡ mid ++ text) → OnOk r (Puts old new f)
last_text old mid new text f r before h =
    on_ok r (λ q. record { gives = λ ps. before ps ∙ said mid text q (written ps) }) h

-- the last step writes pieces
pub last_puts : {E : Type 0} (old mid new : List ℕ) (f g : List Piece → List Piece) (r : Result (Unit {0}) E) → ((ps : List Piece) → old ++ written (f ps) ≡ mid ++ written (g ps)) → OnOk r (Puts mid new g) → OnOk r (Puts old new f)
last_puts old mid new f g r before h =
    on_ok r (λ q. record { gives = λ ps. before ps ∙ q.gives ps }) h

-- the one step of an arm writes it
pub arm_of : {X E : Type 0} (lay : X → List Piece → List Piece) {a b : X} (old new : List ℕ) (r : Result (Unit {0}) E) → a ≡ b → OnOk r (Puts old new (lay b)) → OnOk r (Puts old new (lay a))
arm_of {X} {E} lay {a} {b} old new r e h = on_ok r (λ q. puts_of lay e q) h

-- the same, of the value that an arm takes apart
pub arm_text : {X E : Type 0} (lay : X → List Piece → List Piece) {a b : X} (old mid new text : List ℕ) (r : Result (Unit {0}) E) → a ≡ b → ((ps : List Piece) → old ++ written (lay b ps) ≡ mid ++ (text ++ written ps)) → OnOk r (new ≡ mid ++ text) → OnOk r (Puts old new (lay a))
arm_text {X} {E} lay {a} {b} old mid new text r e before h = arm_of lay old new r e (last_text old mid new text (lay b) r before h)

pub arm_puts : {X E : Type 0} (lay : X → List Piece → List Piece) {a b : X} (old mid new : List ℕ) (g : List Piece → List Piece) (r : Result (Unit {0}) E) → a ≡ b → ((ps : List Piece) → old ++ written (lay b ps) ≡ mid ++ written (g ps)) → OnOk r (Puts mid new g) → OnOk r (Puts old new (lay a))
arm_puts {X} {E} lay {a} {b} old mid new g r e before h = arm_of lay old new r e (last_puts old mid new (lay b) g r before h)

-- the tag of a capability and its sign
pub cap_said : {E : Type 0} (cap : CapTree) (old mid new text : List ℕ) (r : Result (Unit {0}) E) → Puts old mid (canon.name cap.name) → (b : Bool) → cap.plus ≡ b → text ≡ spelling (cond b Kind.Plus Kind.Minus) → OnOk r (new ≡ mid ++ text) → OnOk r (Puts old new (canon.lay_cap cap))
cap_said cap old mid new text r p b e t h =
    on_ok r (λ q. record {
      gives = λ ps.
          p.gives (token (cond cap.plus Kind.Plus Kind.Minus) ∷ ps)
          ∙ ap (λ (b : Bool). mid ++ (spelling (cond b Kind.Plus Kind.Minus) ++ written ps)) e
          ∙ ap (λ (x : List ℕ). mid ++ (x ++ written ps)) (sym t)
          ∙ said mid text q (written ps);
    }) h
