-- All texts of a document have one length.
use Rattle.std.proofs.Common.{◌≡◌, ◌≤◌, ◌+◌, suc, max, Bool, true, false, List, ◌∷◌, ◌++◌, length, Option, Some, Ordering, Less, Equal, Greater, sym, ap, ◌∙◌, subst, arith, []}
use Rattle.std.specs.Prelude.{codes}
use Rattle.std.specs.Ordering.{nat_cmp, match_ordering}
use Rattle.std.specs.Cmp.Lexicographic.{slice_cmp}
use Rattle.std.proofs.lemmas.List.{length-append}
use Rattle.json.specs.Print.{quoted}
use Rattle.serde_json.specs.Data.{Data, null, boolean, number, string, array, object, Members, no_members, member, depth, members_depth}
use Rattle.serde_json.specs.Find.{get, get_member}
use Rattle.serde_json.specs.Read.{read, max_depth}
use Rattle.serde_json.specs.Written.{comma_if, compact_text}
use Rattle.serde_json.proofs.Nesting.{depth-read}
use Rattle.flow_labels.specs.TwoLists.{Text}
use Rattle.world_save_terms.specs.Document.{Parts, parts_of, list_text, version_data, member_text, text_of, Spells}
use Rattle.world_save_rows.proofs.Once.{rows_once}
use Rattle.capabilities.specs.declared.Caps.{Caps}
use Rattle.labelled_files.specs.Trees.{Tree}
use Rattle.world_save_files.specs.Saved.{HasKept, ArePartsOf}
use Rattle.world_save_files.specs.Lengths.{SavedLengthsAreOne}
use Rattle.world_save_files.proofs.CompactLengths.{lengths_are_one}

-- ---- what is taken from an older document

one_data : (a b : Data) → ◌≡◌ {A = Option Data} (Some a) (Some b) → a ≡ b
one_data a b e = cc

module _ (old : Text) (p t q u : Data) (h : HasKept old p t) (k : HasKept old q u) where
  same_document : h.document ≡ k.document
  same_document = one_data h.document k.document (sym h.reads ∙ k.reads)

  same_pipes : p ≡ q
  same_pipes = one_data p q (sym h.pipes_are ∙ ap (get (codes "pipes")) same_document ∙ k.pipes_are)

  same_threads : t ≡ u
  same_threads = one_data t u (sym h.threads_are ∙ ap (get (codes "threads")) same_document ∙ k.threads_are)

-- ---- it nests no deeper than is read

pub member_deep : (k : Text) (ms : Members) (d : Data) → get_member k ms ≡ Some d → depth d ≤ members_depth ms
member_deep k no_members d e = absurd cc
member_deep k (member l x ms) d e = by (slice_cmp nat_cmp k l) e (member_deep k ms d)
  where
    by : (o : Ordering) → match_ordering o (get_member k ms) (Some x) (get_member k ms) ≡ Some d → (get_member k ms ≡ Some d → depth d ≤ members_depth ms) → depth d ≤ max (depth x) (members_depth ms)
    by Less h more = let r = more h in omega arith
    by Equal h more = let is : x ≡ d = cc in let n = ap depth is in omega arith
    by Greater h more = let r = more h in omega arith

get_deep : (k : Text) (d e : Data) → get k d ≡ Some e → depth e ≤ depth d
get_deep k null e h = absurd cc
get_deep k (boolean b) e h = absurd cc
get_deep k (number n) e h = absurd cc
get_deep k (string s) e h = absurd cc
get_deep k (array ds) e h = absurd cc
get_deep k (object ms) e h = let m = member_deep k ms e h in omega (arith, m)

kept_deep : (old k : Text) (document d : Data) → read old ≡ Some document → get k document ≡ Some d → depth d ≤ max_depth
kept_deep old k document d reads is = let whole = depth-read old document reads in let part = get_deep k document d is in omega (arith, whole, part)

-- ---- the length of a document's text

member_length : (later : Bool) (name value rest : Text) → length (member_text later name value rest) ≡ length (comma_if later) + (length (quoted name) + suc (length value + length rest))
member_length later name value rest =
    let a = length-append (comma_if later) (quoted name ++ 58 ∷ (value ++ rest)) in
    let b = length-append (quoted name) (58 ∷ (value ++ rest)) in
    let c = length-append value rest in
    omega (arith, a, b, c)

module _ (p : Parts) where
  abbrev after_tree : Text
  after_tree = member_text true (codes "version") (compact_text version_data) (125 ∷ [])

  abbrev after_threads : Text
  after_threads = member_text true (codes "tree") (list_text p.tree) after_tree

  abbrev after_tags : Text → Text
  after_tags threads = member_text true (codes "threads") threads after_threads

  abbrev after_pipes : Text → Text
  after_pipes threads = member_text true (codes "tags") (list_text p.tags) (after_tags threads)

  abbrev after_counts : Text → Text → Text
  after_counts pipes threads = member_text true (codes "pipes") pipes (after_pipes threads)

  pub text_length : (pipes threads : Text) → length (text_of p pipes threads) ≡ length (text_of p [] []) + (length pipes + length threads)
  text_length pipes threads =
      let a = member_length false (codes "counts") (list_text p.counts) (after_counts pipes threads) in
      let b = member_length true (codes "pipes") pipes (after_pipes threads) in
      let c = member_length true (codes "tags") (list_text p.tags) (after_tags threads) in
      let d = member_length true (codes "threads") threads after_threads in
      let e = member_length false (codes "counts") (list_text p.counts) (after_counts [] []) in
      let f = member_length true (codes "pipes") [] (after_pipes []) in
      let g = member_length true (codes "tags") (list_text p.tags) (after_tags []) in
      let h = member_length true (codes "threads") [] after_threads in
      omega (arith, a, b, c, d, e, f, g, h)

  spelled_length : (text other : Text) → depth p.pipes ≤ max_depth → depth p.threads ≤ max_depth → Spells p text → Spells p other → length text ≡ length other
  spelled_length text other pipes threads s r =
      let a = ap length s.text_is in
      let b = text_length s.pipes s.threads in
      let c = ap length r.text_is in
      let d = text_length r.pipes r.threads in
      let e = lengths_are_one p.pipes s.pipes r.pipes pipes s.pipes_are r.pipes_are in
      let f = lengths_are_one p.threads s.threads r.threads threads s.threads_are r.threads_are in
      omega (arith, a, b, c, d, e, f)

-- the parts of the document of the same files are one
pub parts_once : (names : List Text) (public : Caps) (t : Tree) (old : Text) (p q : Parts) → ArePartsOf names public t old p → ArePartsOf names public t old q → p ≡ q
parts_once names public t old p q a b =
    let rows = rows_once names t.counts a.rows b.rows a.counts b.counts in
    let pipes = same_pipes old a.pipes a.threads b.pipes b.threads a.kept b.kept in
    let threads = same_threads old a.pipes a.threads b.pipes b.threads a.kept b.kept in
    a.are ∙ (λ i. parts_of names public t (rows i) (pipes i) (threads i)) ∙ sym b.are

module _ (names : List Text) (public : Caps) (t : Tree) (old : Text) (p : Parts) (a : ArePartsOf names public t old p) where
  pipes_shallow : depth p.pipes ≤ max_depth
  pipes_shallow = subst (λ (d : Data). depth d ≤ max_depth) (sym (ap (λ (q : Parts). q.pipes) a.are)) (kept_deep old (codes "pipes") a.kept.document a.pipes a.kept.reads a.kept.pipes_are)

  threads_shallow : depth p.threads ≤ max_depth
  threads_shallow = subst (λ (d : Data). depth d ≤ max_depth) (sym (ap (λ (q : Parts). q.threads) a.are)) (kept_deep old (codes "threads") a.kept.document a.threads a.kept.reads a.kept.threads_are)

pub saved_lengths : SavedLengthsAreOne
saved_lengths names public t old text other x y =
    let same = parts_once names public t old x.parts y.parts x.parts_are y.parts_are in
    let pipes = pipes_shallow names public t old y.parts y.parts_are in
    let threads = threads_shallow names public t old y.parts y.parts_are in
    spelled_length y.parts text other pipes threads (subst (λ p. Spells p text) same x.spells) y.spells
