-- Units, step by step.
use Rattle.std.proofs.Common.{◌≡◌, ℕ, suc, ◌+◌, ◌<◌, List, [], ◌∷◌, ◌++◌, length, map, drop, get_or, Some, refl, sym, ap, ◌∙◌, Bor, append_assoc}
use Rattle.lam_syntax.specs.declared.Id.{Id}
use Rattle.lam_syntax.specs.Tree.{id_tree, ids_tree}
use Rattle.lam_operators.specs.Words.{Word}
use Rattle.lam_resolve_tree.specs.declared.ValueType.{ValueType}
use Rattle.lam_resolve_tree.specs.Tree.{types_tree}
use Rattle.lam_resolve_laws.specs.Resolved.{then_some, Locals, locals_from, local_named, resolve_captures}
use Rattle.lam_resolve_tables.specs.declared.kinds.Kind.{Kind}
use Rattle.lam_resolve_exprs.specs.declared.values.Local.{Local}
use Rattle.lam_resolve_tables.specs.Kinds.{kind_type}
use Rattle.lam_resolve_tables.specs.Tables.{vars}
use Rattle.lam_resolve_exprs.specs.Values.{local}
use Rattle.lam_resolve_tables.proofs.Options.{one_more, item_more, map_push}

abbrev pub seen : List (Word × Local) → Locals
seen es = map (λ e. (e.0, local e.1)) es

pub locals_step : (es new : List (Word × Local)) (vs : List (Bor Word × Kind)) (i : ℕ) (d : Bor Word × Kind) (all : Locals) → i < length vs → new ≡ es ++ ((get_or vs i d).0.now, record { slot = i; kind = (get_or vs i d).1 }) ∷ [] →
    seen es ++ locals_from i (vars (drop i vs)) ≡ all → seen new ++ locals_from (i + 1) (vars (drop (i + 1) vs)) ≡ all
locals_step es new vs i d all lt n h =
    ap (λ es. seen es ++ locals_from (i + 1) (vars (drop (i + 1) vs))) n ∙
    ap (λ ls. ls ++ locals_from (i + 1) (vars (drop (i + 1) vs))) (map_push (λ e. (e.0, local e.1)) es ((get_or vs i d).0.now, record { slot = i; kind = (get_or vs i d).1 })) ∙
    append_assoc (seen es) (((get_or vs i d).0.now, record { slot = i; ty = kind_type (get_or vs i d).1 }) ∷ []) (locals_from (i + 1) (vars (drop (i + 1) vs))) ∙
    ap (λ vs. seen es ++ locals_from i (vars vs)) (sym (item_more vs i d lt)) ∙ h

pub length_types : (ts : List ValueType) → length (types_tree ts) ≡ length ts
length_types [] = refl
length_types (t ∷ ts) = ap suc (length_types ts)

pub captures_step : (ls : Locals) (xs : List Id) (i : ℕ) (x : Id) → i < length xs → x ≡ get_or xs i x →
    resolve_captures ls (ids_tree (drop i xs)) ≡ then_some (local_named ls (id_tree x).word) (λ l. then_some (resolve_captures ls (ids_tree (drop (i + 1) xs))) (λ cs. Some (((id_tree x).word, l) ∷ cs)))
captures_step ls xs i x lt is = ap (λ l. resolve_captures ls (ids_tree l)) (one_more xs i x lt is)
