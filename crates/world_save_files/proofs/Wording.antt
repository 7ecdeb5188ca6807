-- The text of the contents of a document is one that is saved, with the pipes and threads of an older document.
use Rattle.std.proofs.Common.{◌≡◌, ◌≤◌, ℕ, suc, List, [], ◌∷◌, map, length, refl, sym, ap, ◌∙◌, subst}
use Rattle.std.specs.Prelude.{Result, Ok, Err, IfOk, IfErr}
use Rattle.serde_json.specs.Data.{Data}
use Rattle.flow_labels.specs.TwoLists.{Text}
use Rattle.capabilities.specs.declared.Caps.{Caps}
use Rattle.lam_value.specs.Homes.{Home, IsListing}
use Rattle.labelled_files.specs.Trees.{Tree}
use Rattle.world_save_terms.specs.Compact.{IsCompact}
use Rattle.world_save_terms.specs.Items.{items_of}
use Rattle.world_save_terms.specs.Rows.{Row}
use Rattle.world_save_terms.specs.Document.{most_document}
use Rattle.world_save_items.specs.Steps.{Found, found, path_of, items_from, IsWalk}
use Rattle.world_save_items.specs.declared.traversal.Step.{Step}
use Rattle.world_save_text.specs.declared.document.Contents.{Contents}
use Rattle.world_save_text.specs.Texts.{parts_with, text_with}
use Rattle.world_save_files.specs.declared.document.SaveFault.{SaveFault}
use Rattle.world_save_files.specs.declared.document.SaveFault.TheVariants.{Unnamed, BadText, TooBig, NoMemory}
use Rattle.world_save_files.specs.Saved.{HasKept, CanBeKept, HaveText, IsTextOf, IsSaveFault}
use Rattle.world_save_files.specs.Bounds.{AreSortedRows, IsBounded, IsUnbounded}

module _ (c : Contents) (old : Text) (homes : List (Home × ℕ)) (listed : IsListing homes c.files.now.counts) (have : HaveText c.names.now c.files.now) (kept : CanBeKept old)
    (compact : (pipes threads : Data) → HasKept old pipes threads → IsCompact pipes c.pipes.now × IsCompact threads c.threads.now) where
  is_text : (text : Text) (rows : List Row) → AreSortedRows c homes rows → text ≡ text_with c rows kept.0 kept.1 → IsTextOf c.names.now c.public.now c.files.now old text
  is_text text rows sorted is =
      let texts = compact kept.0 kept.1 kept.2 in
      record {
        have = have;
        parts = parts_with c rows kept.0 kept.1;
        parts_are = record {
          rows = rows;
          counts = record { homes = homes; listed = listed; same = sorted.same; ordered = sorted.ordered };
          pipes = kept.0;
          threads = kept.1;
          kept = kept.2;
          are = refl;
        };
        spells = record { pipes = c.pipes.now; threads = c.threads.now; pipes_are = texts.0; threads_are = texts.1; text_is = is };
      }

  pub bounded_text : (text : Text) → IsBounded c homes text → IsTextOf c.names.now c.public.now c.files.now old text × (length text ≤ most_document)
  bounded_text text b = (is_text text b.rows b.sorted (b.is kept.0 kept.1), b.fits)

  pub unbounded_fault : (e : SaveFault) → IsUnbounded c homes e → IsSaveFault c.names.now c.public.now c.files.now old e
  unbounded_fault (Unnamed tag) h = absurd h
  unbounded_fault (BadText item) h = absurd h
  unbounded_fault (TooBig bytes) h =
      let text = text_with c h.rows kept.0 kept.1 in
      record { text = text; text_is = is_text text h.rows h.sorted refl; long = h.long kept.0 kept.1; counted = h.counted kept.0 kept.1 }
  unbounded_fault NoMemory h = tt

-- ---- the texts of an older document, as slices

pub as_texts : (old a b pipes_text threads_text : Text) → pipes_text ≡ a → threads_text ≡ b → ((pipes threads : Data) → HasKept old pipes threads → IsCompact pipes a × IsCompact threads b) →
    (pipes threads : Data) → HasKept old pipes threads → IsCompact pipes pipes_text × IsCompact threads threads_text
as_texts old a b pipes_text threads_text e f h pipes threads k =
    let p = h pipes threads k in
    (subst (IsCompact pipes) (sym e) p.0, subst (IsCompact threads) (sym f) p.1)

-- ---- what is said of a text, or of a fault

pub if_ok : {X E : Type 0} (r : Result X E) (P Q : X → Type 0) → ((x : X) → P x → Q x) → IfOk r P → IfOk r Q
if_ok (Ok x) P Q f h = f x h
if_ok (Err e) P Q f h = tt

pub if_err : {X E : Type 0} (r : Result X E) (P Q : E → Type 0) → ((e : E) → P e → Q e) → IfErr r P → IfErr r Q
if_err (Ok x) P Q f h = tt
if_err (Err e) P Q f h = f e h

-- ---- how many items there are

as_many : (path : Text) (fs : List Found) → length (items_from path fs) ≡ length fs
as_many path [] = refl
as_many path (f ∷ fs) = ap suc (as_many (path_of path f) fs)

found_many : (steps : List Step) → length (map found steps) ≡ length steps
found_many [] = refl
found_many (s ∷ steps) = ap suc (found_many steps)

pub items_counted : (t : Tree) (steps : List Step) → IsWalk t steps → length steps ≡ length (items_of t)
items_counted t steps walk = sym (found_many steps) ∙ sym (as_many [] (map found steps)) ∙ ap length walk.items
