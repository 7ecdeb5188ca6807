-- A base has no integrity, so what is public flows to it.
use Rattle.std.proofs.Common.{◌≡◌, nat_cmp, ℕ, ◌&&◌, true, List, [], take, drop, Option, Some, None, Result, Ok, Err, is_none, codes, slice_get, refl, sym, ap, subst, ◌∙◌}
use Rattle.std.proofs.lemmas.Bool.{and_parts}
use Rattle.std.proofs.Math.Bool.{true≢false}
use Rattle.std.proofs.lemmas.Slice.Eq.{bytes_eq-Decides}
use Rattle.std.specs.Cmp.{nat_cmp_total}
use Rattle.std.specs.FinSet.{empty, from_list, is_subset, contains-is_subset, contains-empty}
use Rattle.flow_labels.specs.Tags.{Tags}
use Rattle.flow_labels.specs.Flow.{flows, public_label}
use Rattle.flow_labels.specs.LabelText.{label_of, label_or}
use Rattle.flow_labels.specs.Reading.{bad_place, words, first_end, tags_of_names, sets_of, sets_in, ◌>>=◌}
use Rattle.flow_labels.specs.declared.Label.{Label}
use Rattle.flow_labels.specs.declared.two_lists.Form.TheVariants.{Label as label_form}
use Rattle.flow_labels.specs.declared.two_lists.TwoSets.{TwoSets}
use Rattle.lam_machine_laws.proofs.FlowLemmas.{and_true}
use Rattle.lam_machine_laws.proofs.OwnLemmas.{same_number}
use Rattle.lam_main_words.specs.Forms.{Text, word, has_no_integrity, fits, is_in, asks_by}
use Rattle.lam_main_words.specs.declared.word_forms.Kind.{Kind}
use Rattle.lam_main_words.proofs.FormLemmas.{fits_at, of_form}
use Rattle.lam_closed_words.specs.Words.{Request, run, check, help, run_kinds, check_kinds, base_option, turns_option, kinds, forms, requested, request_of}

-- ---- the words of a form fit it

-- the word of the index has no integrity, where words are in a form and its word is a base
based : (ws : List Text) (ks : List Kind) (i : ℕ) (k : Kind) → slice_get ks i ≡ Some k → ((w : Text) → fits k w ≡ true → has_no_integrity w ≡ true) → is_in ws ks ≡ true → has_no_integrity (word ws i) ≡ true
based ws ks i k at opens e = opens (word ws i) (fits_at ks ws i k (same_number _ _ (and_parts _ _ e).0) at)

opened : (w : Text) → (is_none (bad_place label_form w) && has_no_integrity w) ≡ true → has_no_integrity w ≡ true
opened w e = (and_parts (is_none (bad_place label_form w)) (has_no_integrity w) e).1

-- the base of a request has no integrity
abbrev pub HasOpenBase : Result Request ℕ → Type 0
HasOpenBase (Ok (run program world observer out base turns)) = has_no_integrity base ≡ true
HasOpenBase (Ok (check program world book base)) = has_no_integrity base ≡ true
HasOpenBase (Ok help) = Unit {0}
HasOpenBase (Err at) = Unit {0}

pub open_base : (ws : List Text) → HasOpenBase (request_of ws)
open_base ws =
    of_form kinds forms ws (λ form. HasOpenBase (asks_by (requested ws) form)) tt
    (λ e. refl, (λ e. based ws (run_kinds (base_option [])) 6 _ refl opened e, (λ e. refl, (λ e. based ws (run_kinds (base_option (turns_option []))) 6 _ refl opened e, (λ e. refl, (λ e. based ws (check_kinds (base_option [])) 5 _ refl opened e, (λ e. tt, tt)))))))

-- ---- a label without integrity

-- behind the first list stand no names
no_words : (w : Text) (at : ℕ) → has_no_integrity w ≡ true → words (drop (first_end w) w) [] at ≡ []
no_words w at e = ap (λ (rest : Text). words rest [] at) ((bytes_eq-Decides (drop (first_end w) w) (codes "}/{}")).0 e)

abbrev NoIntegrity : Result TwoSets ℕ → Type 0
NoIntegrity (Ok sets) = sets.second ≡ empty
NoIntegrity (Err at) = Unit {0}

no_second : (read : Result (List ℕ) ℕ) → NoIntegrity (read >>= λ s. (Ok [] >>= λ i. Ok (let sets : TwoSets = record { first = from_list s; second = from_list i } in sets)))
no_second (Ok s) = refl
no_second (Err at) = tt

read_sets : (names : List Text) (w : Text) → has_no_integrity w ≡ true → NoIntegrity (sets_in names w)
read_sets names w e =
    subst (λ (second : List (ℕ × Text)). NoIntegrity (sets_of names (words (take (first_end w) w) [] 0) second)) (sym (no_words w (first_end w) e))
    (no_second (tags_of_names names (words (take (first_end w) w) [] 0)))

by_sets : (bad : Option ℕ) (read : Result TwoSets ℕ) (b : Label) → NoIntegrity read → label_or bad read ≡ Ok b → b.i ≡ empty
by_sets (Some at) read b h is = absurd (let no : ⊥ = cc in no)
by_sets None (Ok sets) b h is = let same : (let l : Label = record { s = sets.first; i = sets.second } in l) ≡ b = cc in sym (ap (λ (l : Label). l.i) same) ∙ h
by_sets None (Err at) b h is = absurd (let no : ⊥ = cc in no)

without_integrity : (names : List Text) (w : Text) (b : Label) → has_no_integrity w ≡ true → label_of names w ≡ Ok b → b.i ≡ empty
without_integrity names w b e is = by_sets (bad_place label_form w) (sets_in names w) b (read_sets names w e) is

nothing_in : (i : Tags) → is_subset empty i ≡ true
nothing_in i = contains-is_subset nat_cmp_total empty i (λ q h. absurd (true≢false (sym h ∙ contains-empty nat_cmp q)))

public_flows : (b : Label) → b.i ≡ empty → flows public_label b ≡ true
public_flows b e = and_true (is_subset empty b.s) (is_subset b.i empty) (nothing_in b.s) (subst (λ (i : Tags). is_subset i empty ≡ true) (sym e) (nothing_in empty))

-- what is public flows to the base that a text without integrity spells
pub text_is_open : (names : List Text) (w : Text) (b : Label) → has_no_integrity w ≡ true → label_of names w ≡ Ok b → flows public_label b ≡ true
text_is_open names w b e is = public_flows b (without_integrity names w b e is)
