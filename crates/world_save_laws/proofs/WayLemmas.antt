-- The path of an entry leads to the place of the entry.
use Rattle.std.proofs.Common.{◌≡◌, ℕ, Bool, true, false, List, [], ◌∷◌, ◌++◌, length, Option, Some, None, Ok, Err, refl, sym, ap, ◌∙◌, append_assoc, append-nil}
use Rattle.std.specs.Prelude.{not, ◌&&◌, nat_eq, nat_le, is_some, codes, option_and_then, if◌then◌else◌}
use Rattle.std.specs.List.{list_any}
use Rattle.std.proofs.lemmas.Bool.{or_parts, and_parts, not-true}
use Rattle.flow_labels.specs.TwoLists.{Text}
use Rattle.lam_value.specs.declared.names.Name.{Name}
use Rattle.labelled_files.specs.declared.directory.Target.{Target}
use Rattle.labelled_files.specs.declared.directory.EntryKind.TheVariants.{Dir}
use Rattle.labelled_files.specs.Entries.{text_eq, is_entry_name, name_of_kind}
use Rattle.labelled_files.specs.Trees.{Tree, target_at}
use Rattle.world_doc_terms.specs.Breaks.{PathTwice, only_if}
use Rattle.world_doc_terms.specs.Stores.{parts_from, parts, Spot, dir_at, spot_from, free_spot, spot_of}
use Rattle.world_forest.specs.Forest.{LeadsTo}
use Rattle.world_save_terms.specs.Items.{below}

-- ---- the names on the way

-- from the root to the directory with a path
abbrev pub way : Text → List Text
way [] = []
way (b ∷ bs) = parts (b ∷ bs)

-- a mark parts what stands before it from what stands behind it
split : (part xs rest : Text) → parts_from part (xs ++ 47 ∷ rest) ≡ parts_from part xs ++ parts_from [] rest
split part [] rest = refl
split part (x ∷ xs) rest = by (nat_eq x 47) (split [] xs rest) (split (part ++ x ∷ []) xs rest)
  where
    by : (b : Bool) → parts_from [] (xs ++ 47 ∷ rest) ≡ parts_from [] xs ++ parts_from [] rest → parts_from (part ++ x ∷ []) (xs ++ 47 ∷ rest) ≡ parts_from (part ++ x ∷ []) xs ++ parts_from [] rest
        → (if b then part ∷ parts_from [] (xs ++ 47 ∷ rest) else parts_from (part ++ x ∷ []) (xs ++ 47 ∷ rest)) ≡ (if b then part ∷ parts_from [] xs else parts_from (part ++ x ∷ []) xs) ++ parts_from [] rest
    by true e f = ap (λ l. part ∷ l) e
    by false e f = f

-- a text with no mark is one part
alone : (part text : Text) → list_any (λ b. nat_eq b 47) text ≡ false → parts_from part text ≡ (part ++ text) ∷ []
alone part [] h = ap (λ (s : Text). s ∷ []) (sym (append-nil part))
alone part (x ∷ xs) h =
    let both = or_parts (nat_eq x 47) (list_any (λ b. nat_eq b 47) xs) h in
    ap (λ b. if b then part ∷ parts_from [] xs else parts_from (part ++ x ∷ []) xs) both.0 ∙ alone (part ++ x ∷ []) xs both.1 ∙ ap (λ (s : Text). s ∷ []) (append_assoc part (x ∷ []) xs)

third : (a b c d : Bool) → (a && (b && (not c && d))) ≡ true → c ≡ false
third a b c d e = not-true c (and_parts (not c) d (and_parts b (not c && d) (and_parts a (b && (not c && d)) e).1).1).0

unmarked : (text : Text) → is_entry_name text ≡ true → list_any (λ b. nat_eq b 47) text ≡ false
unmarked text fine =
    third (nat_le 1 (length text)) (nat_le (length text) 255) (list_any (λ b. nat_eq b 47) text) (not (list_any (λ b. nat_eq b 0) text) && (not (text_eq text (codes ".")) && not (text_eq text (codes "..")))) fine

pub parts_below : (path text : Text) → is_entry_name text ≡ true → parts (below path text) ≡ way path ++ text ∷ []
parts_below [] text fine = alone [] text (unmarked text fine)
parts_below (b ∷ bs) text fine = split [] (b ∷ bs) text ∙ ap (λ l. parts_from [] (b ∷ bs) ++ l) (alone [] text (unmarked text fine))

pub way_below : (path text : Text) → is_entry_name text ≡ true → way (below path text) ≡ way path ++ text ∷ []
way_below [] [] fine = cc
way_below [] (c ∷ cs) fine = parts_below [] (c ∷ cs) fine
way_below (b ∷ bs) text fine = parts_below (b ∷ bs) text fine

-- ---- down the entries of directories

abbrev pub down : Tree → Name → List Text → Option Name
down t dir [] = Some dir
down t dir (text ∷ rest) = option_and_then (λ below. down t below rest) (dir_at t dir text)

the_same : (o : Option Name) → option_and_then (λ n. Some n) o ≡ o
the_same None = refl
the_same (Some n) = refl

pub down_more : (t : Tree) (dir : Name) (ws : List Text) (text : Text) → down t dir (ws ++ text ∷ []) ≡ option_and_then (λ d. dir_at t d text) (down t dir ws)
down_more t dir [] text = the_same (dir_at t dir text)
down_more t dir (w ∷ ws) text = by (dir_at t dir w) (λ n. down_more t n ws text)
  where
    by : (o : Option Name) → ((n : Name) → down t n (ws ++ text ∷ []) ≡ option_and_then (λ d. dir_at t d text) (down t n ws)) → option_and_then (λ n. down t n (ws ++ text ∷ [])) o ≡ option_and_then (λ d. dir_at t d text) (option_and_then (λ n. down t n ws) o)
    by None more = refl
    by (Some n) more = more n

abbrev pub place : Text → Name → Spot
place text dir = record { dir = dir; text = text }

abbrev last_spot : Text → Name → Option Spot
last_spot text dir = only_if (is_entry_name text) (place text dir)

spot_down : (t : Tree) (dir : Name) (ws : List Text) (text : Text) → spot_from t dir (ws ++ text ∷ []) ≡ option_and_then (last_spot text) (down t dir ws)
spot_down t dir [] text = refl
spot_down t dir (w ∷ []) text = by (dir_at t dir w)
  where
    by : (o : Option Name) → option_and_then (λ n. spot_from t n (text ∷ [])) o ≡ option_and_then (last_spot text) (option_and_then (λ n. Some n) o)
    by None = refl
    by (Some n) = refl
spot_down t dir (w ∷ v ∷ ws) text = by (dir_at t dir w) (λ n. spot_down t n (v ∷ ws) text)
  where
    by : (o : Option Name) → ((n : Name) → spot_from t n ((v ∷ ws) ++ text ∷ []) ≡ option_and_then (last_spot text) (down t n (v ∷ ws)))
        → option_and_then (λ n. spot_from t n ((v ∷ ws) ++ text ∷ [])) o ≡ option_and_then (last_spot text) (option_and_then (λ n. down t n (v ∷ ws)) o)
    by None more = refl
    by (Some n) more = more n

-- the place of an entry is found by its path, where nothing stands there yet
pub spot_found : (index : ℕ) (t : Tree) (path text : Text) (dir : Name) → is_entry_name text ≡ true → down t t.root (way path) ≡ Some dir → target_at t dir text ≡ None → spot_of index t (below path text) ≡ Ok (place text dir)
spot_found index t path text dir fine leads none =
    ap (λ ps. free_spot index t (spot_from t t.root ps)) (parts_below path text fine)
    ∙ ap (free_spot index t) (spot_down t t.root (way path) text)
    ∙ ap (λ o. free_spot index t (option_and_then (last_spot text) o)) leads
    ∙ ap (λ b. free_spot index t (only_if b (place text dir))) fine
    ∙ ap (λ (o : Option Target). if is_some o then Err (PathTwice index) else Ok (place text dir)) none

-- where no entry goes, each way stays
module _ (t u : Tree) (keeps : (d : Name) (q : List ℕ) (x : Target) → LeadsTo t d q x → LeadsTo u d q x) where
  step_kept : (d : Name) (q : Text) (n : Name) (o : Option Target) → target_at t d q ≡ o → name_of_kind Dir o ≡ Some n → dir_at u d q ≡ Some n
  step_kept d q n None e h = absurd cc
  step_kept d q n (Some x) e h = ap (name_of_kind Dir) (keeps d q x e) ∙ h

  pub down_kept : (ws : List Text) (d e : Name) → down t d ws ≡ Some e → down u d ws ≡ Some e
  down_kept [] d e h = h
  down_kept (w ∷ ws) d e h = by (dir_at t d w) refl h (λ n. down_kept ws n e)
    where
      by : (o : Option Name) → dir_at t d w ≡ o → option_and_then (λ n. down t n ws) o ≡ Some e → ((n : Name) → down t n ws ≡ Some e → down u n ws ≡ Some e) → option_and_then (λ n. down u n ws) (dir_at u d w) ≡ Some e
      by None f g more = absurd cc
      by (Some n) f g more = ap (option_and_then (λ n. down u n ws)) (step_kept d w n (target_at t d w) refl f) ∙ more n g
