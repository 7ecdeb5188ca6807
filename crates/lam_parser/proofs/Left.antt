-- What is read of the tokens that are left is read of all of them.
use Rattle.std.proofs.Common.{◌≡◌, ℕ, ◌+◌, ◌-◌, ◌<◌, ◌≤◌, inl, inr, true, false, Some, List, [], ◌∷◌, ◌++◌, length, take, drop, slice_get, refl, sym, ap, ◌∙◌, subst, zero-add, add_assoc, arith, length-drop}
use Rattle.std.proofs.lemmas.Option.{slice_get-get_or, slice_get_past, slice_get_cases}
use Rattle.std.proofs.lemmas.Bool.{cases_lt}
use Rattle.std.proofs.lemmas.List.{get_or-drop}
use Rattle.std.proofs.Math.Seq.{take-append_seam}
use Rattle.lam_grammar_laws.specs.Grammar.{rule, Reads}
use Rattle.lam_grammar_laws.specs.Texts.{limited}
use Rattle.lam_grammar_laws.specs.Stopping.{begins_next}
use Rattle.lam_grammar_laws.proofs.Shifted.{reads_later, stops_later}
use Rattle.lam_lexer.specs.declared.token.Token.{Token}
use Rattle.lam_syntax.specs.Tree.{ItemTree}
use Rattle.lam_grammar.specs.Table.{Rule, Sym, items, item}
use Rattle.lam_grammar.specs.Meaning.{Value, word, items_value, item_value}
use Rattle.lam_grammar.specs.Meaning as meaning
use Rattle.lam_grammar.specs.Program.{lam, program}
use Rattle.lam_grammar.specs.Examples.{examples}
use Rattle.lam_parser_tokens.specs.declared.marks.Mark.TheVariants as m
use Rattle.lam_parser_tokens.specs.declared.breaks.Break.{Break}
use Rattle.lam_parser_tokens.specs.declared.breaks.Break.TheVariants.{Unexpected, TooDeep, NoMemory}
use Rattle.lam_parser_tokens.specs.declared.breaks.Wanted.TheVariants.{Item}
use Rattle.lam_parser_tokens.specs.Classes.{fits_at}
use Rattle.lam_parser_tokens.specs.Reading.{Gives, Fails, Taken, Absent}
use Rattle.lam_parser_tokens.proofs.Rules.{Loop, part_begun, rule_taken, rule_body_of, no_rule_body_of, loop_begins_self, loop_goes_on, loop_ends, loop_strict}
use Rattle.lam_parser_parts.proofs.Steps.{begun_fails, loop_begun_fails, loop_as}
use Rattle.lam_parser_parts.proofs.Sums.{with_value}
use Rattle.lam_parser.specs.Answers.{at_or, position_at}
use Rattle.lam_parser.specs.Left.{IsLeft, IsFreed, later}
use Rattle.lam_parser.proofs.ItemBodies.{items_begin, program_fails, item_wanted, program_read}

-- ---- which tokens are left

pub all_left : (ts : List Token) → IsLeft ts ts 0
all_left ts = record { same = λ i. ap (slice_get ts) (sym (zero-add i)); count = zero-add (length ts); some = λ h. absurd (omega arith) }

left_again : {all left after : List Token} {gone more : ℕ} → IsLeft all left gone → IsLeft left after more → IsLeft all after (gone + more)
left_again {all} {left} {after} {gone} {more} a b = record {
  same = λ i. b.same i ∙ a.same (more + i) ∙ ap (slice_get all) (sym (add_assoc gone more i));
  count = omega (arith, a.count, b.count);
  some = λ h. elim (cases_lt 0 more) [ inl lt ↦ b.some lt | inr le ↦ omega (arith, a.some (omega arith), b.count) ];
}

get_dropped : (n : ℕ) (ts : List Token) (i : ℕ) → slice_get (drop n ts) i ≡ slice_get ts (n + i)
get_dropped n ts i =
    elim (slice_get_cases ts (n + i)).1 [
      | inl x ↦ slice_get-get_or (drop n ts) i x.0 (omega (arith, x.1, length-drop n ts)) ∙ ap Some (get_or-drop n ts i x.0 ∙ x.3) ∙ sym x.2
      | inr x ↦ slice_get_past (drop n ts) i (omega (arith, x.0, length-drop n ts)) ∙ sym x.1
    ]

turned_back : (ts turned cut after : List Token) (n : ℕ) → turned ≡ drop n ts ++ take n ts → cut ≡ take (length ts - n) turned → after ≡ cut → after ≡ drop n ts
turned_back ts turned cut after n t c a =
    a ∙ c ∙ ap (take (length ts - n)) t ∙ ap (λ k. take k (drop n ts ++ take n ts)) (sym (length-drop n ts)) ∙ take-append_seam (drop n ts) (take n ts)

dropped_left : (ts after : List Token) (n : ℕ) → n < length ts → after ≡ drop n ts → IsLeft ts after n
dropped_left ts after n lt e = record {
  same = λ i. ap (λ l. slice_get l i) e ∙ get_dropped n ts i;
  count = omega (arith, ap length e, length-drop n ts);
  some = λ h. omega (arith, ap length e, length-drop n ts);
}

-- the tokens before `end` stood at the end, and were cut off there
pub cut_off : (ts turned cut after : List Token) (end kept : ℕ) → kept ≡ length ts - end → 0 < kept → end ≤ length ts → turned ≡ drop end ts ++ take end ts → cut ≡ take kept turned → after ≡ cut → IsFreed ts after end 0
cut_off ts turned cut after end kept k lt le t c a = record {
  gone = end;
  left = dropped_left ts after end (omega (arith, k)) (turned_back ts turned cut after end t (c ∙ ap (λ n. take n turned) k) a);
  moved = omega arith;
  within = omega arith;
}

last_left : {all left : List Token} {gone : ℕ} → IsLeft all left gone → slice_get left (length left - 1) ≡ slice_get all (length all - 1)
last_left {all} {left} {gone} a =
    let e : gone + (length left - 1) ≡ length all - 1 = elim (cases_lt 0 gone) [ inl lt ↦ omega (arith, a.some lt, a.count) | inr le ↦ omega (arith, a.count) ] in
    a.same (length left - 1) ∙ ap (slice_get all) e

pub position_left : {all left : List Token} {gone : ℕ} → IsLeft all left gone → (n : ℕ) → position_at left n ≡ position_at all (gone + n)
position_left {all} {left} {gone} a n = ap (λ o. at_or (at_or 0 o) (slice_get left n)) (last_left a) ∙ ap (at_or (at_or 0 (slice_get all (length all - 1)))) (a.same n)

-- ---- what is read

fails_left : {all left : List Token} {gone : ℕ} → IsLeft all left gone → (p : List Sym) (s i : ℕ) (b : Break) → Fails (slice_get left) p s i b → Fails (slice_get all) p s (gone + i) (later gone b)
fails_left {all} {left} {gone} a p s i (Unexpected at wanted) h = (
  λ before. stops_later lam examples (limited lam) (slice_get all) gone (limited lam) (slice_get left) a.same (λ j. refl) (h.0 before),
  λ before. stops_later lam examples (limited lam) (slice_get all) gone (limited lam) (slice_get left) a.same (λ j. refl) (h.1 before),
)
fails_left {all} {left} {gone} a p s i (TooDeep at) h = λ before. stops_later lam examples (limited lam) (slice_get all) gone (limited lam) (slice_get left) a.same (λ j. refl) (h before)
fails_left a p s i NoMemory h = tt

gives_left : {all left : List Token} {gone : ℕ} → IsLeft all left gone → (r : Rule) (s i : ℕ) (v : Value) (j t : ℕ) → Gives (slice_get left) r s i v j t → Gives (slice_get all) r s (gone + i) v (gone + j) t
gives_left {all} {left} {gone} a r s i v j t h before = reads_later lam examples (limited lam) (slice_get all) gone (limited lam) (slice_get left) a.same (λ j. refl) (h before)

-- The items of all tokens before the one that has the index `next` in what is left; the others are still open.
pub record ItemsRead (all left : List Token) (value : List ItemTree → Value) (next : ℕ) : Type 0 where
  pub gone : ℕ
  pub is : IsLeft all left gone
  pub loop : Loop (List ItemTree) items_value (slice_get all) items items 0 0 value (gone + next) 0 (λ w. examples.closes item w ≡ true)

pub none_read : (ts : List Token) → ItemsRead ts ts items_value 0
none_read ts = record {
  gone = 0;
  is = all_left ts;
  loop = loop_strict (λ w. examples.closes item w ≡ true) (λ w e. tt) (loop_begins_self items_value (slice_get ts) items 0 0 refl);
}

-- another way to write what is still open
pub read_as : {all left : List Token} {value value' : List ItemTree → Value} {next : ℕ} → ((os : List ItemTree) → value os ≡ value' os) → ItemsRead all left value next → ItemsRead all left value' next
read_as e g = record { gone = g.gone; is = g.is; loop = loop_as e g.loop }

module _ {all left : List Token} {value : List ItemTree → Value} {next : ℕ} (g : ItemsRead all left value next) where
  begins_there : begins_next lam item (slice_get left next) ≡ true → begins_next lam item (slice_get all (g.gone + next)) ≡ true
  begins_there h = ap (begins_next lam item) (sym (g.is.same next)) ∙ h

  -- an item is read
  pub item_read : (after : List Token) (value' : List ItemTree → Value) (x : ItemTree) (end next' : ℕ) → begins_next lam item (slice_get left next) ≡ true → Gives (slice_get left) item 0 next (item_value x) end 0 → next < end → IsFreed left after end next' → ((os : List ItemTree) → value (x ∷ os) ≡ value' os) → ItemsRead all after value' next'
  item_read after value' x end next' b h lt f e =
      let k = g.gone + next in
      let part = part_begun (slice_get all) items 0 k (rule_body_of all k items item (begins_there b) refl (λ y. refl)) in
      let on = loop_as e (loop_goes_on refl g.loop (omega arith) (rule_taken (gives_left g.is item 0 next (item_value x) end 0 h) (omega arith) part) (λ os. refl)) in
      let there : g.gone + end ≡ (g.gone + f.gone) + next' = omega (arith, f.moved) in
      record {
        gone = g.gone + f.gone;
        is = left_again g.is f.left;
        loop = subst (λ n. Loop (List ItemTree) items_value (slice_get all) items items 0 0 value' n 0 (λ w. examples.closes item w ≡ true)) there on;
      }

  -- the item is none
  pub item_fails : (b : Break) → begins_next lam item (slice_get left next) ≡ true → Fails (slice_get left) (rule item ∷ []) 0 next b → Fails (slice_get all) program 0 0 (later g.gone b)
  item_fails b h f =
      let k = g.gone + next in
      let part = part_begun (slice_get all) items 0 k (rule_body_of all k items item (begins_there h) refl (λ y. refl)) in
      let b' = later g.gone b in
      program_fails (slice_get all) b' (loop_begun_fails g.loop (items_begin (slice_get all k) ∙ begins_there h) b' (begun_fails part (begins_there h) b' (fails_left g.is (rule item ∷ []) 0 next b f)))

  listed : begins_next lam item (slice_get left next) ≡ false → Gives (slice_get all) items 0 0 (value []) (g.gone + next) 0
  listed h =
      let k = g.gone + next in
      loop_ends [] refl g.loop refl (no_rule_body_of all k items item (ap (begins_next lam item) (sym (g.is.same next)) ∙ h) refl (λ b. refl))

  -- no item stands there, nor the end
  pub no_item : begins_next lam item (slice_get left next) ≡ false → Absent left next m.End → Fails (slice_get all) program 0 0 (Unexpected (g.gone + next) Item)
  no_item h a = item_wanted g.loop (listed h) (record { no = ap (fits_at m.End) (sym (g.is.same next)) ∙ a.no })

  -- the end stands there
  pub all_read : (v : Value) (w : Token) → value [] ≡ v → begins_next lam item (slice_get left next) ≡ false → Taken left 0 next m.End w → Reads lam (limited lam) (slice_get all) program meaning.nothing 0 0 (v ∷ word w ∷ []) (g.gone + (next + 1)) 0
  all_read v w e h t =
      let there : Taken all 0 (g.gone + next) m.End w = record { is = sym (g.is.same next) ∙ t.is; fit = t.fit; within = t.within } in
      subst (λ n. Reads lam (limited lam) (slice_get all) program meaning.nothing 0 0 (v ∷ word w ∷ []) n 0) (add_assoc g.gone next 1) (program_read (with_value e (listed h)) there)
