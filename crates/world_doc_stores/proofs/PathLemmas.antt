-- The parts of a path, and the walk over them.
use Rattle.std.proofs.Common.{◌≡◌, ℕ, suc, ◌+◌, ◌-◌, ◌<◌, ◌≤◌, true, false, not, cond, eqb, [], ◌∷◌, ◌++◌, length, take, drop, Option, Some, None, refl, sym, ap, ◌∙◌, subst, arith, append_assoc, length-drop}
use Rattle.std.proofs.lemmas.List.{append-nil, take_all}
use Rattle.std.specs.List.{prefix_len}
use Rattle.std.specs.Option.{option_and_then}
use Rattle.lam_value.specs.declared.names.Name.{Name}
use Rattle.flow_labels.specs.TwoLists.{Text}
use Rattle.labelled_files.specs.Trees.{Tree}
use Rattle.world_doc_terms.specs.Stores.{parts, parts_from, Spot, spot_from, dir_at}

pub no_mark : (p text : Text) → length text ≤ prefix_len (λ b. not (eqb b 47)) text → parts_from p text ≡ (p ++ text) ∷ []
no_mark p [] = λ e. ap (λ (t : Text). t ∷ []) (sym (append-nil p))
no_mark p (b ∷ bs) =
    elim (eqb b 47) as (λ t. suc (length bs) ≤ cond (not t) (1 + prefix_len (λ b. not (eqb b 47)) bs) 0 → cond t (p ∷ parts_from [] bs) (parts_from (p ++ b ∷ []) bs) ≡ (p ++ b ∷ bs) ∷ []) [
      | true ↦ λ e. absurd (omega arith)
      | false ↦ λ e. no_mark (p ++ b ∷ []) bs (omega arith) ∙ ap (λ (t : Text). t ∷ []) (append_assoc p (b ∷ []) bs)
    ]

pub first_mark : (p text : Text) → prefix_len (λ b. not (eqb b 47)) text < length text →
    parts_from p text ≡ (p ++ take (prefix_len (λ b. not (eqb b 47)) text) text) ∷ parts (drop (prefix_len (λ b. not (eqb b 47)) text + 1) text)
first_mark p [] = λ e. absurd (omega arith)
first_mark p (b ∷ bs) =
    elim (eqb b 47) as (λ t. cond (not t) (1 + prefix_len (λ b. not (eqb b 47)) bs) 0 < suc (length bs) → cond t (p ∷ parts_from [] bs) (parts_from (p ++ b ∷ []) bs) ≡ (p ++ take (cond (not t) (1 + prefix_len (λ b. not (eqb b 47)) bs) 0) (b ∷ bs)) ∷ parts (drop (cond (not t) (1 + prefix_len (λ b. not (eqb b 47)) bs) 0 + 1) (b ∷ bs))) [
      | true ↦ λ e. ap (λ (t : Text). t ∷ parts bs) (sym (append-nil p))
      | false ↦ λ e. later (prefix_len (λ b. not (eqb b 47)) bs) (first_mark (p ++ b ∷ []) bs (omega arith))
    ]
  where
    later : (k : ℕ) → parts_from (p ++ b ∷ []) bs ≡ ((p ++ b ∷ []) ++ take k bs) ∷ parts (drop (k + 1) bs) → parts_from (p ++ b ∷ []) bs ≡ (p ++ take (1 + k) (b ∷ bs)) ∷ parts (drop (1 + k + 1) (b ∷ bs))
    later k e =
        let one : 1 + k ≡ suc k = omega arith in
        let two : suc k + 1 ≡ suc (k + 1) = omega arith in
        rw (one, two) (e ∙ ap (λ (t : Text). t ∷ parts (drop (k + 1) bs)) (append_assoc p (b ∷ []) (take k bs)))

pub path_uncut : (path : Text) (n : ℕ) → n ≡ prefix_len (λ b. not (eqb b 47)) path → length path ≤ n → parts path ≡ path ∷ []
path_uncut path n is h = no_mark [] path (omega arith)

pub path_cut : (path : Text) (n : ℕ) → n ≡ prefix_len (λ b. not (eqb b 47)) path → n < length path →
    (parts path ≡ take n path ∷ parts (take (length path - (n + 1)) (drop (n + 1) path))) × (length (take (length path - (n + 1)) (drop (n + 1) path)) < length path)
path_cut path n is h =
    let P : Text → Type 0 = λ r. (parts path ≡ take n path ∷ parts r) × (length r < length path) in
    let whole : take (length path - (n + 1)) (drop (n + 1) path) ≡ drop (n + 1) path = take_all (length path - (n + 1)) (drop (n + 1) path) (omega (arith, length-drop (n + 1) path)) in
    subst P (sym whole) (first_mark [] path (omega arith) ∙ ap (λ (k : ℕ). take k path ∷ parts (drop (k + 1) path)) (sym is), omega (arith, length-drop (n + 1) path))

-- ---- the walk

down_from : (t : Tree) (dir : Name) (part p path : Text) → spot_from t dir (part ∷ parts_from p path) ≡ option_and_then (λ below. spot_from t below (parts_from p path)) (dir_at t dir part)
down_from t dir part p [] = refl
down_from t dir part p (b ∷ bs) =
    elim (eqb b 47) as (λ v. spot_from t dir (part ∷ cond v (p ∷ parts_from [] bs) (parts_from (p ++ b ∷ []) bs)) ≡ option_and_then (λ below. spot_from t below (cond v (p ∷ parts_from [] bs) (parts_from (p ++ b ∷ []) bs))) (dir_at t dir part)) [
      | true ↦ refl
      | false ↦ down_from t dir part (p ++ b ∷ []) bs
    ]

-- over a part that is a directory
pub down : (t : Tree) (dir below : Name) (path part rest : Text) (all : Option Spot) → all ≡ spot_from t dir (parts path) → parts path ≡ part ∷ parts rest → Some below ≡ dir_at t dir part → all ≡ spot_from t below (parts rest)
down t dir below path part rest all so_far cut is =
    so_far ∙ ap (spot_from t dir) cut ∙ down_from t dir part [] rest ∙ ap (option_and_then (λ (n : Name). spot_from t n (parts rest))) (sym is)

-- or not
pub nowhere : (t : Tree) (dir : Name) (path part rest : Text) (all : Option Spot) → all ≡ spot_from t dir (parts path) → parts path ≡ part ∷ parts rest → None ≡ dir_at t dir part → None ≡ all
nowhere t dir path part rest all so_far cut is =
    sym (so_far ∙ ap (spot_from t dir) cut ∙ down_from t dir part [] rest ∙ ap (option_and_then (λ (n : Name). spot_from t n (parts rest))) (sym is))

-- at the last part
pub last : (t : Tree) (dir : Name) (path : Text) (all : Option Spot) → all ≡ spot_from t dir (parts path) → parts path ≡ path ∷ [] → all ≡ spot_from t dir (path ∷ [])
last t dir path all so_far uncut = so_far ∙ ap (spot_from t dir) uncut
