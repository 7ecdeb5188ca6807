-- Two lists met in place.
use Rattle.std.proofs.Common.{◌≡◌, suc, Bool, true, false, List, [], ◌∷◌, Option, Some, None, length, refl, sym, ap, ap₂, ◌∙◌}
use Rattle.guarded_code.specs.declared.known.ValueKind.{ValueKind}
use Rattle.guarded_code.specs.declared.known.ValueKind.TheVariants.{Number}
use Rattle.guarded_code.specs.declared.known.Known.{Known}
use Rattle.guarded_code.specs.declared.known.Operand.{Operand}
use Rattle.guarded_code.specs.Descriptions.{Description, met_kind, met_known, met_operand, put_before, met_lists, described, meet}

kind_same : (k : ValueKind) → met_kind k k ≡ k
kind_same Number = refl
kind_same k = refl

known_flat : (kind : ValueKind) (read write : Bool) → met_known (record { kind = kind; read = read; write = write }) (record { kind = kind; read = read; write = write }) ≡ record { kind = kind; read = read; write = write }
known_flat kind true true = ap (λ (k : ValueKind). let x : Known = record { kind = k; read = true; write = true } in x) (kind_same kind)
known_flat kind true false = ap (λ (k : ValueKind). let x : Known = record { kind = k; read = true; write = false } in x) (kind_same kind)
known_flat kind false true = ap (λ (k : ValueKind). let x : Known = record { kind = k; read = false; write = true } in x) (kind_same kind)
known_flat kind false false = ap (λ (k : ValueKind). let x : Known = record { kind = k; read = false; write = false } in x) (kind_same kind)

-- two that say the same leave it
pub known_same : (k l : Known) → k ≡ l → k ≡ met_known k l
known_same k l e = sym (known_flat k.kind k.read k.write) ∙ ap (met_known k) e

-- ---- two descriptions

met_apart : {A : Type 0} (f : A → A → A) (xs ys : List A) → (length xs ≡ length ys → ⊥) → met_lists f xs ys ≡ None
met_apart f [] [] ne = absurd (ne refl)
met_apart f (x ∷ xs) (y ∷ ys) ne = ap (put_before (f x y)) (met_apart f xs ys (λ e. ne (ap suc e)))
met_apart f xs ys ne = refl

described_none : (o : Option (List Operand)) → described o None ≡ None
described_none None = refl
described_none (Some os) = refl

abbrev of : List Operand → List Known → Description
of os ks = record { stack = os; locals = ks }

pub meet_some : (ds es zs : List Operand) (dl el zl : List Known) (d e : Description) → of ds dl ≡ d → of es el ≡ e → met_lists met_operand ds es ≡ Some zs → met_lists met_known dl el ≡ Some zl → meet d e ≡ Some (of zs zl)
meet_some ds es zs dl el zl d e ed ee hs hl = ap₂ meet (sym ed) (sym ee) ∙ ap₂ described hs hl

pub meet_apart : (ds es : List Operand) (dl el : List Known) (d e : Description) → of ds dl ≡ d → of es el ≡ e → (length ds ≡ length es → ⊥) → meet d e ≡ None
meet_apart ds es dl el d e ed ee ne =
    ap₂ meet (sym ed) (sym ee) ∙ ap (λ o. described o (met_lists met_known dl el)) (met_apart met_operand ds es ne)

pub meet_uneven : (ds es : List Operand) (dl el : List Known) (d e : Description) → of ds dl ≡ d → of es el ≡ e → (length dl ≡ length el → ⊥) → meet d e ≡ None
meet_uneven ds es dl el d e ed ee ne =
    ap₂ meet (sym ed) (sym ee) ∙ ap (described (met_lists met_operand ds es)) (met_apart met_known dl el ne) ∙ described_none (met_lists met_operand ds es)
