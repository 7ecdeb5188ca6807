-- Arguments and tags, one after the other.
use Rattle.std.proofs.Common.{◌≡◌, refl, sym, ap, ◌∙◌, subst, ℕ, zero, suc, ◌+◌, ◌<◌, List, [], ◌∷◌, length, drop, get_or, arith, add-one, Some}
use Rattle.std.proofs.lemmas.List.{length-map}
use Rattle.std.proofs.Math.Seq.{drop-cons}
use Rattle.lam_syntax.specs.declared.Expr.{Expr}
use Rattle.lam_syntax.specs.declared.CapItem.{CapItem}
use Rattle.lam_syntax.specs.Tree.{ExprTree, ExprList, no_exprs, exprs, exprs_tree, expr_tree, caps_tree, cap_tree}
use Rattle.lam_builtins.specs.Types.{Given, Place, exactly, tag}
use Rattle.lam_types_kinds.specs.Verdicts.{Fine, Stop, then_on}
use Rattle.lam_types_kinds.specs.Breaks.{Verdict}
use Rattle.lam_builtins.specs.Builtins.{Answer, answered}
use Rattle.lam_types_kinds.specs.Tables.{Names, Decls}
use Rattle.lam_types_kinds.specs.Values.{Breaks, places, place}
use Rattle.lam_types_kinds.specs.declared.types.Want.{Want}
use Rattle.lam_types_kinds.specs.declared.fault.TypeFault.{TypeFault}
use Rattle.lam_types_kinds.proofs.Steps.{stops, goes_on}
use Rattle.lam_types_exprs.specs.Exprs.{at_of, placed, given_of, args_given, rest_given, tags_given, count, counted, called, cap_tag, cap_tags}
use Rattle.lam_types_exprs.specs.Meets.{first_of, signature_as}

-- the arguments from number i on, where the first before them gave f
abbrev pub after : Decls → Names → ℕ → Given → List Place → ExprList → Verdict Given
after d env zero f (p ∷ ps) (exprs e rest) = args_given d env (p ∷ ps) (exprs e rest)
after d env zero f _ _ = Fine f
after d env (suc i) f ps es = then_on (rest_given d env ps es) (λ _. Fine f)

pub after_all : (d : Decls) (env : Names) (i : ℕ) (f : Given) → after d env i f [] no_exprs ≡ Fine f
after_all d env zero f = refl
after_all d env (suc i) f = refl

then_assoc : {A B C : Type 0} (v : Verdict A) (f : A → Verdict B) (g : B → Verdict C) → then_on (then_on v f) g ≡ then_on v (λ a. then_on (f a) g)
then_assoc (Fine a) f g = refl
then_assoc (Stop b) f g = refl

pub after_step : (d : Decls) (env : Names) (i : ℕ) (f : Given) (p : Place) (ps : List Place) (e : ExprTree) (rest : ExprList) →
    after d env i f (p ∷ ps) (exprs e rest) ≡ then_on (placed (at_of e) p (given_of d env e)) (λ g. after d env (suc i) (first_of i f g) ps rest)
after_step d env zero f p ps e rest = refl
after_step d env (suc i) f p ps e rest = then_assoc (placed (at_of e) p (given_of d env e)) (λ _. rest_given d env ps rest) (λ _. Fine f)

one_more : {A : Type 0} (xs : List A) (i : ℕ) (x : A) → i < length xs → x ≡ get_or xs i x → drop i xs ≡ x ∷ drop (i + 1) xs
one_more xs i x lt is = drop-cons xs i x lt ∙ ap (λ w. w ∷ drop (suc i) xs) (sym is) ∙ ap (λ k. x ∷ drop k xs) (sym (add-one i))

pub args_step : (d : Decls) (env : Names) (ws : List Want) (es : List Expr) (i : ℕ) (f : Given) (w : Want) (e : Expr) → i < length es → length ws ≡ length es → w ≡ get_or ws i w → e ≡ get_or es i e →
    after d env i f (places (drop i ws)) (exprs_tree (drop i es)) ≡
    then_on (placed (at_of (expr_tree e)) (place w) (given_of d env (expr_tree e))) (λ g. after d env (i + 1) (first_of i f g) (places (drop (i + 1) ws)) (exprs_tree (drop (i + 1) es)))
args_step d env ws es i f w e lt same p q =
    ap (λ (l : List Want). after d env i f (places l) (exprs_tree (drop i es))) (one_more ws i w (omega arith) p) ∙
    ap (λ (l : List Expr). after d env i f (place w ∷ places (drop (i + 1) ws)) (exprs_tree l)) (one_more es i e lt q) ∙
    after_step d env i f (place w) (places (drop (i + 1) ws)) (expr_tree e) (exprs_tree (drop (i + 1) es)) ∙
    ap (λ (k : ℕ). then_on (placed (at_of (expr_tree e)) (place w) (given_of d env (expr_tree e))) (λ g. after d env k (first_of i f g) (places (drop (i + 1) ws)) (exprs_tree (drop (i + 1) es)))) (sym (add-one i))

-- the break of one argument
pub args_stop : (h : TypeFault) (d : Decls) (env : Names) (ws : List Want) (es : List Expr) (i : ℕ) (f : Given) (w : Want) (e : Expr) (v : Verdict Given) → i < length es → length ws ≡ length es → w ≡ get_or ws i w → e ≡ get_or es i e →
    v ≡ after d env i f (places (drop i ws)) (exprs_tree (drop i es)) → Breaks h (placed (at_of (expr_tree e)) (place w) (given_of d env (expr_tree e))) → Breaks h v
args_stop h d env ws es i f w e v lt same p q is b =
    subst (λ (v : Verdict Given). Breaks h v) (sym (is ∙ args_step d env ws es i f w e lt same p q))
    (stops h (placed (at_of (expr_tree e)) (place w) (given_of d env (expr_tree e))) (λ g. after d env (i + 1) (first_of i f g) (places (drop (i + 1) ws)) (exprs_tree (drop (i + 1) es))) b)

-- one argument that fits
pub args_next : (d : Decls) (env : Names) (ws : List Want) (es : List Expr) (i : ℕ) (f g k : Given) (w : Want) (e : Expr) (v : Verdict Given) → i < length es → length ws ≡ length es → w ≡ get_or ws i w → e ≡ get_or es i e →
    v ≡ after d env i f (places (drop i ws)) (exprs_tree (drop i es)) → placed (at_of (expr_tree e)) (place w) (given_of d env (expr_tree e)) ≡ Fine g → k ≡ first_of i f g →
    v ≡ after d env (i + 1) k (places (drop (i + 1) ws)) (exprs_tree (drop (i + 1) es))
args_next d env ws es i f g k w e v lt same p q is b n =
    is ∙ args_step d env ws es i f w e lt same p q ∙
    ap (λ (x : Verdict Given). then_on x (λ g. after d env (i + 1) (first_of i f g) (places (drop (i + 1) ws)) (exprs_tree (drop (i + 1) es)))) b ∙
    ap (λ (m : Given). after d env (i + 1) m (places (drop (i + 1) ws)) (exprs_tree (drop (i + 1) es))) (sym n)

pub count_exprs : (es : List Expr) → count (exprs_tree es) ≡ length es
count_exprs [] = refl
count_exprs (e ∷ es) = omega (arith, count_exprs es)

pub count_places : (ws : List Want) → length (places ws) ≡ length ws
count_places ws = length-map ws place

tags_step : (d : Decls) (env : Names) (es : List Expr) (i : ℕ) (e : Expr) → i < length es → e ≡ get_or es i e →
    tags_given d env (exprs_tree (drop i es)) ≡ then_on (placed (at_of (expr_tree e)) (exactly tag) (given_of d env (expr_tree e))) (λ _. tags_given d env (exprs_tree (drop (i + 1) es)))
tags_step d env es i e lt q = ap (λ (l : List Expr). tags_given d env (exprs_tree l)) (one_more es i e lt q)

pub tags_stop : (h : TypeFault) (d : Decls) (env : Names) (es : List Expr) (i : ℕ) (e : Expr) (v : Verdict (Unit {0})) → i < length es → e ≡ get_or es i e →
    v ≡ tags_given d env (exprs_tree (drop i es)) → Breaks h (placed (at_of (expr_tree e)) (exactly tag) (given_of d env (expr_tree e))) → Breaks h v
tags_stop h d env es i e v lt q is b =
    subst (λ (v : Verdict (Unit {0})). Breaks h v) (sym (is ∙ tags_step d env es i e lt q))
    (stops h (placed (at_of (expr_tree e)) (exactly tag) (given_of d env (expr_tree e))) (λ _. tags_given d env (exprs_tree (drop (i + 1) es))) b)

pub tags_next : (d : Decls) (env : Names) (es : List Expr) (i : ℕ) (g : Given) (e : Expr) (v : Verdict (Unit {0})) → i < length es → e ≡ get_or es i e →
    v ≡ tags_given d env (exprs_tree (drop i es)) → placed (at_of (expr_tree e)) (exactly tag) (given_of d env (expr_tree e)) ≡ Fine g → v ≡ tags_given d env (exprs_tree (drop (i + 1) es))
tags_next d env es i g e v lt q is b =
    is ∙ tags_step d env es i e lt q ∙ ap (λ (x : Verdict Given). then_on x (λ _. tags_given d env (exprs_tree (drop (i + 1) es)))) b

pub caps_stop : (h : TypeFault) (env : Names) (xs : List CapItem) (i : ℕ) (x : CapItem) (v : Verdict (Unit {0})) → i < length xs → x ≡ get_or xs i x →
    v ≡ cap_tags env (caps_tree (drop i xs)) → Breaks h (cap_tag env (cap_tree x)) → Breaks h v
caps_stop h env xs i x v lt q is b =
    subst (λ (v : Verdict (Unit {0})). Breaks h v) (sym (is ∙ ap (λ (l : List CapItem). cap_tags env (caps_tree l)) (one_more xs i x lt q)))
    (stops h (cap_tag env (cap_tree x)) (λ _. cap_tags env (caps_tree (drop (i + 1) xs))) b)

pub ruleset counts = (count_exprs, count_places)

-- a call, of which the arguments were reached as xs and ys

module _ (d : Decls) (env : Names) (at : ℕ) (ps : List Place) (a : Answer) where
  abbrev the_call : List Expr → Verdict Given
  the_call es = called at (Some (signature_as ps a)) (count (exprs_tree es)) (λ ps. args_given d env ps (exprs_tree es))

pub called_count : (f : TypeFault) (d : Decls) (env : Names) (at : ℕ) (ps : List Place) (a : Answer) (xs es : List Expr) → xs ≡ es →
    Breaks f (counted at (length ps) (count (exprs_tree xs))) → Breaks f (the_call d env at ps a es)
called_count f d env at ps a xs es e h =
    stops f (counted at (length ps) (count (exprs_tree es))) (λ _. then_on (args_given d env ps (exprs_tree es)) (λ first. Fine (answered a first)))
    (subst (λ (l : List Expr). Breaks f (counted at (length ps) (count (exprs_tree l)))) e h)

pub called_args : (f : TypeFault) (d : Decls) (env : Names) (at : ℕ) (ps : List Place) (a : Answer) (xs ys es : List Expr) → xs ≡ es → ys ≡ es →
    counted at (length ps) (count (exprs_tree xs)) ≡ Fine tt → Breaks f (args_given d env ps (exprs_tree ys)) → Breaks f (the_call d env at ps a es)
called_args f d env at ps a xs ys es e g c h =
    goes_on f (counted at (length ps) (count (exprs_tree es))) tt (λ _. then_on (args_given d env ps (exprs_tree es)) (λ first. Fine (answered a first)))
    (subst (λ (l : List Expr). counted at (length ps) (count (exprs_tree l)) ≡ Fine tt) e c)
    (stops f (args_given d env ps (exprs_tree es)) (λ first. Fine (answered a first)) (subst (λ (l : List Expr). Breaks f (args_given d env ps (exprs_tree l))) g h))

pub called_fine : (d : Decls) (env : Names) (at : ℕ) (ps : List Place) (a : Answer) (xs ys es : List Expr) (first r : Given) → xs ≡ es → ys ≡ es →
    counted at (length ps) (count (exprs_tree xs)) ≡ Fine tt → args_given d env ps (exprs_tree ys) ≡ Fine first → r ≡ answered a first → the_call d env at ps a es ≡ Fine r
called_fine d env at ps a xs ys es first r e g c h q =
    ap (λ (v : Verdict (Unit {0})). then_on v (λ _. then_on (args_given d env ps (exprs_tree es)) (λ first. Fine (answered a first)))) (subst (λ (l : List Expr). counted at (length ps) (count (exprs_tree l)) ≡ Fine tt) e c) ∙
    ap (λ (v : Verdict Given). then_on v (λ first. Fine (answered a first))) (subst (λ (l : List Expr). args_given d env ps (exprs_tree l) ≡ Fine first) g h) ∙ ap Fine (sym q)
