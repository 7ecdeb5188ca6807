-- The plan of the files at the end of a run is one where it is a refusal, and where no digits are left to the writer.
use Rattle.std.proofs.Common.{◌≡◌, ◌≤◌, ◌<◌, ℕ, List, Option, Some, None, length, sym, ap, ◌∙◌, subst, arith}
use Rattle.serde_json.specs.Written.{has_float, compact_text}
use Rattle.capabilities.specs.declared.Caps.{Caps}
use Rattle.labelled_files.specs.Trees.{Tree}
use Rattle.world_save_terms.specs.Document.{Parts, text_of, most_document}
use Rattle.world_save_terms.specs.Refusals.{AllNamed, IsLeastUnnamed, bad_path}
use Rattle.world_save_items.specs.Measures.{capped}
use Rattle.world_save_files.specs.Saved.{IsTextOf, IsTooBig}
use Rattle.world_save_files.proofs.DocumentLengths.{parts_once, saved_lengths}
use Rattle.lam_main_words.specs.Words.{Text}
use Rattle.lam_main_plan.specs.Refusals.{Plan, unnamed_tag, bad_text, too_big}
use Rattle.lam_main_plan.specs.Saves.{saves_text, IsOfFiles, saved, unnamed, untold, too_long, TakesWholeNumbers}
use Rattle.lam_main_plan.specs.Plan.{IsRefused}

-- ---- the text

module _ (names : List Text) (public : Caps) (t : Tree) (old : Text) (whole : TakesWholeNumbers old) where
  abbrev plain_text : Parts → Text
  plain_text p = text_of p (compact_text p.pipes) (compact_text p.threads)

  is_plain : (text : Text) (x : IsTextOf names public t old text) → text ≡ plain_text x.parts
  is_plain text x =
      let a = x.parts_are in
      let s = x.spells in
      let w = whole a.pipes a.threads a.kept in
      let pipes : s.pipes ≡ compact_text x.parts.pipes = (s.pipes_are).plain (ap (λ (p : Parts). has_float p.pipes) a.are ∙ w.0) in
      let threads : s.threads ≡ compact_text x.parts.threads = (s.threads_are).plain (ap (λ (p : Parts). has_float p.threads) a.are ∙ w.1) in
      s.text_is ∙ (λ i. text_of x.parts (pipes i) (threads i))

  text_once : (text other : Text) → IsTextOf names public t old text → IsTextOf names public t old other → text ≡ other
  text_once text other x y = is_plain text x ∙ ap plain_text (parts_once names public t old x.parts y.parts x.parts_are y.parts_are) ∙ sym (is_plain other y)

-- ---- a refusal is the one plan

least_is_one : (a b : ℕ) → a ≤ b → b ≤ a → a ≡ b
least_is_one a b h k = omega (arith, h, k)

one_item : {a b : ℕ} → ◌≡◌ {A = Option ℕ} (Some a) (Some b) → a ≡ b
one_item e = cc

some_item : {a : ℕ} → ◌≡◌ {A = Option ℕ} (Some a) None → ⊥
some_item e = cc

clash : (m n : ℕ) → m ≡ n → n ≤ most_document → most_document < m → ⊥
clash m n e h k = omega (arith, e, h, k)

module _ (p q : Plan) (out old : Text) (names : List Text) (public : Caps) (t : Tree) where
  unnamed_once : (tag : ℕ) → IsLeastUnnamed names t tag → p ≡ unnamed_tag tag → IsOfFiles out old names public t q → p ≡ q
  unnamed_once tag h e (saved text items k d) = absurd (k.text_is.have.0 tag h.is)
  unnamed_once tag h e (unnamed other k d) = e ∙ ap unnamed_tag (least_is_one tag other (h.least other k.is) (k.least tag h.is)) ∙ sym d
  unnamed_once tag h e (untold item k d) = absurd (k.0 tag h.is)
  unnamed_once tag h e (too_long bytes k d) = absurd (k.text_is.have.0 tag h.is)

  untold_once : (item : ℕ) → AllNamed names t × (bad_path t ≡ Some item) → p ≡ bad_text item → IsOfFiles out old names public t q → p ≡ q
  untold_once item h e (saved text items k d) = absurd (some_item (sym h.1 ∙ k.text_is.have.1))
  untold_once item h e (unnamed tag k d) = absurd (h.0 tag k.is)
  untold_once item h e (untold other k d) = e ∙ ap bad_text (one_item (sym h.1 ∙ k.1)) ∙ sym d
  untold_once item h e (too_long bytes k d) = absurd (some_item (sym h.1 ∙ k.text_is.have.1))

  -- all texts have one length
  too_long_once : (bytes : ℕ) → IsTooBig names public t old bytes → p ≡ too_big bytes → IsOfFiles out old names public t q → p ≡ q
  too_long_once bytes h e (saved text items k d) = absurd (clash (length h.text) (length text) (saved_lengths names public t old h.text text h.text_is k.text_is) k.fits h.long)
  too_long_once bytes h e (unnamed tag k d) = absurd (h.text_is.have.0 tag k.is)
  too_long_once bytes h e (untold item k d) = absurd (some_item (sym k.1 ∙ h.text_is.have.1))
  too_long_once bytes h e (too_long more k d) = e ∙ ap too_big (h.counted ∙ ap capped (saved_lengths names public t old h.text k.text h.text_is k.text_is) ∙ sym k.counted) ∙ sym d

  pub refused_once : IsRefused p.status → IsOfFiles out old names public t p → IsOfFiles out old names public t q → p ≡ q
  refused_once refused (saved text items h e) k = absurd (subst (λ (it : Plan). IsRefused it.status) e refused)
  refused_once refused (unnamed tag h e) k = unnamed_once tag h e k
  refused_once refused (untold item h e) k = untold_once item h e k
  refused_once refused (too_long bytes h e) k = too_long_once bytes h e k

-- ---- the plan, where no digits are left to the writer

module _ (p q : Plan) (out old : Text) (names : List Text) (public : Caps) (t : Tree) (whole : TakesWholeNumbers old) where
  pub one_saved : IsOfFiles out old names public t p → IsOfFiles out old names public t q → p ≡ q
  one_saved (saved text items h e) (saved other more k d) =
      let text_is = text_once names public t old whole text other h.text_is k.text_is in
      let items_are : items ≡ more = h.counted ∙ sym k.counted in
      e ∙ (λ i. saves_text out (text_is i) (items_are i)) ∙ sym d
  one_saved h (unnamed tag k d) = sym (unnamed_once q p out old names public t tag k d h)
  one_saved h (untold item k d) = sym (untold_once q p out old names public t item k d h)
  one_saved h (too_long bytes k d) = sym (too_long_once q p out old names public t bytes k d h)
  one_saved (unnamed tag h e) k = unnamed_once p q out old names public t tag h e k
  one_saved (untold item h e) k = untold_once p q out old names public t item h e k
  one_saved (too_long bytes h e) k = too_long_once p q out old names public t bytes h e k
