-- A count of a document's bytes, whatever the order of its rows, tells whether the document is too long.
use Rattle.std.proofs.Common.{◌≡◌, ◌≤◌, ◌<◌, ℕ, List, map, length, refl, sym, ap, ◌∙◌, subst, arith}
use Rattle.std.specs.Prelude.{IsPermutation, IsSorted}
use Rattle.serde_json.specs.Data.{Data, null}
use Rattle.flow_labels.specs.TwoLists.{Text}
use Rattle.lam_value.specs.Homes.{Home}
use Rattle.world_save_terms.specs.Rows.{Row, row_of, row_cmp}
use Rattle.world_save_terms.specs.Document.{most_document}
use Rattle.world_save_items.specs.Measures.{capped}
use Rattle.world_save_rows.proofs.InOrder.{HasSorted, sorted_rows}
use Rattle.world_save_text.specs.declared.document.Contents.{Contents}
use Rattle.world_save_text.specs.Texts.{text_with}
use Rattle.world_save_files.specs.Bounds.{AreSortedRows, IsBounded, IsLong}

module _ (c : Contents) (homes : List (Home × ℕ)) (bytes : ℕ) (counted : (rows : List Row) (pipes threads : Data) → IsPermutation (map (row_of c.names.now) homes) rows → bytes ≡ capped (length (text_with c rows pipes threads))) where
  short : (rows : List Row) (text : Text) → IsPermutation (map (row_of c.names.now) homes) rows → text ≡ text_with c rows null null → bytes ≤ most_document → length text ≤ most_document
  short rows text same is le = let n = counted rows null null same in let m = ap length is in omega (arith, n, m)

  pub bounded_by : (rows : List Row) (text : Text) → IsPermutation (map (row_of c.names.now) homes) rows → IsSorted row_cmp rows → ((pipes threads : Data) → text ≡ text_with c rows pipes threads) → bytes ≤ most_document → IsBounded c homes text
  bounded_by rows text same ordered is le =
      record { rows = rows; sorted = record { same = same; ordered = ordered }; is = is; fits = short rows text same (is null null) le }

  more : (n m : ℕ) → n ≡ capped m → most_document < n → most_document < m
  more n m e less = omega (arith, e, less)

  pub long_by : most_document < bytes → IsLong c homes bytes
  long_by less =
      let h = sorted_rows (map (row_of c.names.now) homes) in
      record {
        rows = h.in_order;
        sorted = record { same = h.same; ordered = h.ordered };
        long = λ pipes threads. more bytes (length (text_with c h.in_order pipes threads)) (counted h.in_order pipes threads h.same) less;
        counted = λ pipes threads. counted h.in_order pipes threads h.same;
      }
