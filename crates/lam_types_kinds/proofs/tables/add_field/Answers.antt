use Rattle.std.proofs.Common.{◌≡◌, refl, sym, ap, ◌∙◌, is_some, false, Bool, Option, None, Some, List, ◌++◌, ◌∷◌, [], Bor}
use Rattle.std.specs.Map.{lookup}
use Rattle.lam_syntax.specs.Tree.{VarTree, var_tree}
use Rattle.lam_operators.specs.Words.{Word}
use Rattle.lam_types_kinds.specs.Tables.{find, typed_name}
use Rattle.lam_builtins.specs.Types.{ValueType}
use Rattle.lam_types_kinds.specs.Values.{names, value_type, keyed, Table}
use Rattle.lam_types_kinds.specs.declared.types.TypeRef.{TypeRef}
use Rattle.lam_types_kinds.proofs.TableLemmas.{has_see, see_push, field_new, field_there, key_is}
use Rattle.lam_types_kinds.proofs.tables.add_field.Goals as goal
use Rattle.lam_types_kinds.proofs.tables.add_field.Goals.{then-not-contains_key+in_ok-add_name, else-not-contains_key}

absent : {A : Type 0} (o : Option A) → is_some o ≡ false → o ≡ None
absent None e = refl
absent (Some a) e = absurd cc

pub add_name-requires : goal.add_name-requires
add_name-requires c =
    absent (find c.as_str-then-not-contains_key.result.now (keyed c.args.all.now.entries))
    (has_see (λ v. v) c.as_str-then-not-contains_key.result.now c.args.all.now.entries ∙
    ap (λ (w : Word). is_some (lookup (key_is w) c.args.all.now.entries)) (c.as_str-then-not-contains_key.ensures.value ∙ sym c.as_str.ensures.value) ∙ sym c.contains_key.ensures ∙ c.if-not-contains_key.true)

one_more : (es : List (Bor Word × TypeRef)) (k : Bor Word) (t : TypeRef) (v : VarTree) → k.now ≡ v.name.word → value_type t ≡ (typed_name v).1 → names (es ++ (k, t) ∷ []) ≡ names es ++ typed_name v ∷ []
one_more es k t v e g =
    see_push value_type es k t ∙ ap (λ (w : Word). names es ++ (w, value_type t) ∷ []) e ∙ ap (λ (u : ValueType). names es ++ (v.name.word, u) ∷ []) g

-- whether the name was there, as the definitions see it
was_there : (es : List (Bor Word × TypeRef)) (v : VarTree) (w : Word) (b : Bool) → w ≡ v.name.word → b ≡ is_some (lookup (key_is w) es) → is_some (find v.name.word (names es)) ≡ b
was_there es v w b e h = has_see value_type v.name.word es ∙ ap (λ (w : Word). is_some (lookup (key_is w) es)) (sym e) ∙ sym h

pub returns-clause-ok : goal.returns-clause-ok
returns-clause-ok c =
    let old = names c.args.all.now.entries in
    let v = var_tree c.args.v.now in
    let there : is_some (find v.name.word old) ≡ c.contains_key.result = was_there c.args.all.now.entries v c.as_str.result.now c.contains_key.result c.as_str.ensures.value c.contains_key.ensures in
    elim c.if-not-contains_key.branch [
      | then-not-contains_key+in_ok-add_name w ↦
          ap (λ (m : Table TypeRef). names m.entries) w.all-is ∙ ap names w.in_ok-add_name.ensures.ok ∙
          one_more c.args.all.now.entries w.as_str-then-not-contains_key.result w.type_ref.result v w.as_str-then-not-contains_key.ensures.value w.type_ref.ensures ∙ sym (field_new old v (there ∙ w.if-not-contains_key.true))
      | else-not-contains_key w ↦ ap (λ (m : Table TypeRef). names m.entries) w.all-is ∙ sym (field_there old v (there ∙ w.if-not-contains_key.false))
    ]
