-- What is read was spelt.
use Rattle.std.proofs.Common.{◌≡◌, ℕ, zero, ◌+◌, ◌<◌, ◌≤◌, codes, Bool, true, false, cond, eqb, leb, List, [], ◌∷◌, ◌++◌, length, refl, sym, ap, ◌∙◌, subst, arith, Option, Some, None, Result, Ok, Err, append_assoc, append-nil}
use Rattle.std.specs.Str.{bytes_eq}
use Rattle.std.proofs.lemmas.Bool.{and_parts, cond_both, eqb-true, leb-true}
use Rattle.std.proofs.lemmas.Bool.Decides.{nat_tests}
use Rattle.std.proofs.lemmas.Option.{none-some, same_Some}
use Rattle.std.proofs.lemmas.Slice.Eq.{bytes_eq-Decides}
use Rattle.flow_labels.specs.Names.{place_of}
use Rattle.flow_labels.specs.LabelText.{label_of}
use Rattle.capabilities.specs.Changes.{no_caps}
use Rattle.capabilities.specs.CapsText.{caps_of}
use Rattle.capabilities.specs.declared.kinds.TagKind.{TagKind}
use Rattle.capabilities.specs.declared.kinds.TagKind.TheVariants.{Read as read_kind}
use Rattle.flow_labels.specs.declared.Label.{Label}
use Rattle.capabilities.specs.declared.Caps.{Caps}
use Rattle.play_script.specs.declared.Actor.{Actor}
use Rattle.play_script.specs.declared.Step.{Step}
use Rattle.play_script.specs.declared.Step.TheVariants.{Read, Write, Copy}
use Rattle.play_script.specs.Pieces.{Word, pieces, onto_first, after_mark, parted, ended, lacks, each_lacks}
use Rattle.decimal_text.specs.Decimal.{int_of}
use Rattle.play_script.specs.Script.{Play, nothing, is_ascii, may_declare, with_tag, with_actor, with_cell, with_step, when, ok_of, then_some, kind_in, actor_in, cell_in, after_tag, after_actor, after_cell, read_of, write_of, copy_of, step_of, after_step, after_words, after_line, at_line, or_line, at_end, last_or, read_lines, read_script}
use Rattle.play_script.specs.Grammar.{begins_step, Says, LineSays, Goes, Spells, Breaks, FirstBroken, ScriptsAreExact, BreaksAreExact, LinesAreExact}
use Rattle.play_script.specs.Grammar.Says.{tag, kind, actor, holder, cell, reads, writes, copies}
use Rattle.play_script.specs.Grammar.Breaks.{open_line, says_nothing, one_too_many}
use Rattle.play_script.proofs.LineLemmas.{more_pieces}
use Rattle.play_script.proofs.GrammarLemmas.{line_first, one_piece, line_read, lines_go, script_read}

-- ---- pieces

parted_onto : (mark b : ℕ) (ps : List Word) → parted mark (onto_first b ps) ≡ b ∷ parted mark ps
parted_onto mark b [] = refl
parted_onto mark b (p ∷ ps) = refl

after_some : (mark : ℕ) (text : Word) → after_mark mark (pieces mark text) ≡ mark ∷ parted mark (pieces mark text)
after_some mark text = filled (pieces mark text) (more_pieces mark text true false)
  where
    filled : (ps : List Word) → last_or ps true false ≡ false → after_mark mark ps ≡ mark ∷ parted mark ps
    filled [] e = absurd cc
    filled (p ∷ ps) e = refl

pub parted-pieces : (mark : ℕ) (text : Word) → parted mark (pieces mark text) ≡ text
parted-pieces mark [] = refl
parted-pieces mark (b ∷ bs) =
    cond_both (eqb b mark) ([] ∷ pieces mark bs) (onto_first b (pieces mark bs)) (λ ps. parted mark ps ≡ b ∷ bs)
    (λ same. after_some mark bs ∙ ap (λ r. mark ∷ r) (parted-pieces mark bs) ∙ ap (λ (m : ℕ). m ∷ bs) (sym (eqb-true b mark same)))
    (λ differs. parted_onto mark b (pieces mark bs) ∙ ap (λ r. b ∷ r) (parted-pieces mark bs))

lacks_onto : (mark b : ℕ) (ps : List Word) → eqb b mark ≡ false → each_lacks mark ps ≡ true → each_lacks mark (onto_first b ps) ≡ true
lacks_onto mark b [] differs e = rw differs refl
lacks_onto mark b (p ∷ ps) differs e = rw differs e

pub pieces_lack : (mark : ℕ) (text : Word) → each_lacks mark (pieces mark text) ≡ true
pieces_lack mark [] = refl
pieces_lack mark (b ∷ bs) =
    cond_both (eqb b mark) ([] ∷ pieces mark bs) (onto_first b (pieces mark bs)) (λ ps. each_lacks mark ps ≡ true)
    (λ same. pieces_lack mark bs) (λ differs. lacks_onto mark b (pieces mark bs) differs (pieces_lack mark bs))

-- ---- words

when_some : {A : Type 0} (b : Bool) (o : Option A) (q : A) → when b o ≡ Some q → (b ≡ true) × (o ≡ Some q)
when_some true o q e = (refl, e)
when_some false o q e = absurd cc

ok_some : {A E : Type 0} (r : Result A E) (x : A) → ok_of r ≡ Some x → r ≡ Ok x
ok_some (Ok y) x e = cc
ok_some (Err y) x e = absurd cc

then_some_some : {A B : Type 0} (r : Option A) (f : A → Option B) (q : B) → then_some r f ≡ Some q → (x : A) × (r ≡ Some x) × (f x ≡ Some q)
then_some_some (Some x) f q e = (x, refl, e)
then_some_some None f q e = absurd cc

is_text : (a b : Word) → bytes_eq a b ≡ true → b ≡ a
is_text a b e = sym ((bytes_eq-Decides a b).0 e)

said_tag : (p : Play) (n : Word) (rest : List Word) (k : TagKind) → may_declare p n ≡ true → kind_in rest ≡ Some k → Says p (codes "tag" ∷ n ∷ rest) (with_tag p n k)
said_tag p n [] k may e = subst (λ x. Says p (codes "tag" ∷ n ∷ []) (with_tag p n x)) (same_Some read_kind k e) (tag n may)
said_tag p n (w ∷ []) k may e = kind n w k may e
said_tag p n (v ∷ w ∷ ws) k may e = absurd cc

back_tag : (p q : Play) (ws : List Word) → after_tag p ws ≡ Some q → Says p (codes "tag" ∷ ws) q
back_tag p q [] e = absurd cc
back_tag p q (n ∷ rest) e =
    let may = when_some (may_declare p n) (then_some (kind_in rest) (λ k. Some (with_tag p n k))) q e in
    let there = then_some_some (kind_in rest) (λ k. Some (with_tag p n k)) q may.1 in
    subst (Says p (codes "tag" ∷ n ∷ rest)) (same_Some (with_tag p n there.0) q there.2) (said_tag p n rest there.0 may.0 there.1)

-- the label and the capabilities of an actor, read from the words after its name
data Holds (tags : List Word) (l : Word) : List Word → Actor → Type 0 where
  bare : (label : Label) → label_of tags l ≡ Ok label → Holds tags l [] (record { label = label; caps = no_caps })
  held : (c : Word) (label : Label) (caps : Caps) → label_of tags l ≡ Ok label → caps_of tags c ≡ Ok caps → Holds tags l (c ∷ []) (record { label = label; caps = caps })

back_holds : (tags : List Word) (l : Word) (rest : List Word) (a : Actor) → actor_in tags l rest ≡ Some a → Holds tags l rest a
back_holds tags l [] a e =
    let labelled = then_some_some (ok_of (label_of tags l)) (λ x. Some (record { label = x; caps = no_caps })) a e in
    subst (Holds tags l []) (same_Some (record { label = labelled.0; caps = no_caps }) a labelled.2) (bare labelled.0 (ok_some (label_of tags l) labelled.0 labelled.1))
back_holds tags l (c ∷ []) a e =
    let labelled = then_some_some (ok_of (label_of tags l)) (λ x. then_some (ok_of (caps_of tags c)) (λ y. Some (record { label = x; caps = y }))) a e in
    let holding = then_some_some (ok_of (caps_of tags c)) (λ y. Some (record { label = labelled.0; caps = y })) a labelled.2 in
    subst (Holds tags l (c ∷ [])) (same_Some (record { label = labelled.0; caps = holding.0 }) a holding.2) (held c labelled.0 holding.0 (ok_some (label_of tags l) labelled.0 labelled.1) (ok_some (caps_of tags c) holding.0 holding.1))
back_holds tags l (c ∷ d ∷ ws) a e =
    let labelled = then_some_some (ok_of (label_of tags l)) (λ x. None) a e in
    absurd (none-some a labelled.2)

said_actor : (p : Play) (n l : Word) (rest : List Word) (a : Actor) → may_declare p n ≡ true → Holds p.tags l rest a → Says p (codes "actor" ∷ n ∷ l ∷ rest) (with_actor p n a)
said_actor p n l rest a may (bare label labelled) = actor n l label may labelled
said_actor p n l rest a may (held c label caps labelled holding) = holder n l c label caps may labelled holding

back_actor : (p q : Play) (ws : List Word) → after_actor p ws ≡ Some q → Says p (codes "actor" ∷ ws) q
back_actor p q (n ∷ l ∷ rest) e =
    let may = when_some (may_declare p n) (then_some (actor_in p.tags l rest) (λ a. Some (with_actor p n a))) q e in
    let there = then_some_some (actor_in p.tags l rest) (λ a. Some (with_actor p n a)) q may.1 in
    subst (Says p (codes "actor" ∷ n ∷ l ∷ rest)) (same_Some (with_actor p n there.0) q there.2) (said_actor p n l rest there.0 may.0 (back_holds p.tags l rest there.0 there.1))
back_actor p q ws e = absurd cc

back_cell : (p q : Play) (ws : List Word) → after_cell p ws ≡ Some q → Says p (codes "cell" ∷ ws) q
back_cell p q (n ∷ l ∷ v ∷ []) e =
    let may = when_some (may_declare p n) (then_some (cell_in p.tags l v) (λ c. Some (with_cell p n c))) q e in
    let there = then_some_some (cell_in p.tags l v) (λ c. Some (with_cell p n c)) q may.1 in
    let labelled = then_some_some (ok_of (label_of p.tags l)) (λ x. then_some (int_of v) (λ z. Some (record { label = x; value = z }))) there.0 there.1 in
    let number = then_some_some (int_of v) (λ z. Some (record { label = labelled.0; value = z })) there.0 labelled.2 in
    let made : with_cell p n (record { label = labelled.0; value = number.0 }) ≡ q = ap (with_cell p n) (same_Some (record { label = labelled.0; value = number.0 }) there.0 number.2) ∙ same_Some (with_cell p n there.0) q there.2 in
    subst (Says p (codes "cell" ∷ n ∷ l ∷ v ∷ [])) made (cell n l v labelled.0 number.0 may.0 (ok_some (label_of p.tags l) labelled.0 labelled.1) number.1)
back_cell p q ws e = absurd cc

-- the step `s` that an actor was read to take
abbrev Steps : Play → Word → Word → List Word → Step → Type 0
Steps p a v ws s = Says p (a ∷ v ∷ ws) (with_step p s)

back_read : (p : Play) (a : Word) (who : ℕ) (ws : List Word) (s : Step) → begins_step a ≡ true → place_of p.actor_names a ≡ Some who → read_of p.cell_names who ws ≡ Some s → Steps p a (codes "read") ws s
back_read p a who (c ∷ []) s plain named e =
    let there = then_some_some (place_of p.cell_names c) (λ x. Some (Read who x)) s e in
    subst (Steps p a (codes "read") (c ∷ [])) (same_Some (Read who there.0) s there.2) (reads a c who there.0 plain named there.1)
back_read p a who ws s plain named e = absurd cc

back_write : (p : Play) (a : Word) (who : ℕ) (ws : List Word) (s : Step) → begins_step a ≡ true → place_of p.actor_names a ≡ Some who → write_of p.cell_names who ws ≡ Some s → Steps p a (codes "write") ws s
back_write p a who (c ∷ v ∷ []) s plain named e =
    let there = then_some_some (place_of p.cell_names c) (λ x. then_some (int_of v) (λ z. Some (Write who x z))) s e in
    let number = then_some_some (int_of v) (λ z. Some (Write who there.0 z)) s there.2 in
    subst (Steps p a (codes "write") (c ∷ v ∷ [])) (same_Some (Write who there.0 number.0) s number.2) (writes a c v who there.0 number.0 plain named there.1 number.1)
back_write p a who ws s plain named e = absurd cc

back_copy : (p : Play) (a : Word) (who : ℕ) (ws : List Word) (s : Step) → begins_step a ≡ true → place_of p.actor_names a ≡ Some who → copy_of p.cell_names who ws ≡ Some s → Steps p a (codes "copy") ws s
back_copy p a who (c ∷ d ∷ []) s plain named e =
    let there = then_some_some (place_of p.cell_names c) (λ x. then_some (place_of p.cell_names d) (λ y. Some (Copy who x y))) s e in
    let here = then_some_some (place_of p.cell_names d) (λ y. Some (Copy who there.0 y)) s there.2 in
    subst (Steps p a (codes "copy") (c ∷ d ∷ [])) (same_Some (Copy who there.0 here.0) s here.2) (copies a c d who there.0 here.0 plain named there.1 here.1)
back_copy p a who ws s plain named e = absurd cc

back_verb : (p : Play) (a v : Word) (who : ℕ) (ws : List Word) (s : Step) → begins_step a ≡ true → place_of p.actor_names a ≡ Some who →
    (r w k : Bool) → bytes_eq v (codes "read") ≡ r → bytes_eq v (codes "write") ≡ w → bytes_eq v (codes "copy") ≡ k →
    cond r (read_of p.cell_names who ws) (cond w (write_of p.cell_names who ws) (cond k (copy_of p.cell_names who ws) None)) ≡ Some s → Steps p a v ws s
back_verb p a v who ws s plain named true w k is_read is_write is_copy e = subst (λ (x : Word). Steps p a x ws s) (is_text v (codes "read") is_read) (back_read p a who ws s plain named e)
back_verb p a v who ws s plain named false true k is_read is_write is_copy e = subst (λ (x : Word). Steps p a x ws s) (is_text v (codes "write") is_write) (back_write p a who ws s plain named e)
back_verb p a v who ws s plain named false false true is_read is_write is_copy e = subst (λ (x : Word). Steps p a x ws s) (is_text v (codes "copy") is_copy) (back_copy p a who ws s plain named e)
back_verb p a v who ws s plain named false false false is_read is_write is_copy e = absurd cc

back_act : (p : Play) (a : Word) (ws : List Word) (s : Step) → begins_step a ≡ true → step_of p (a ∷ ws) ≡ Some s → Says p (a ∷ ws) (with_step p s)
back_act p a [] s plain e = absurd cc
back_act p a (v ∷ ws) s plain e =
    let there = then_some_some (place_of p.actor_names a) (λ who. cond (bytes_eq v (codes "read")) (read_of p.cell_names who ws) (cond (bytes_eq v (codes "write")) (write_of p.cell_names who ws) (cond (bytes_eq v (codes "copy")) (copy_of p.cell_names who ws) None))) s e in
    back_verb p a v there.0 ws s plain there.1 (bytes_eq v (codes "read")) (bytes_eq v (codes "write")) (bytes_eq v (codes "copy")) refl refl refl there.2

back_step : (p q : Play) (a : Word) (ws : List Word) → begins_step a ≡ true → after_step p (a ∷ ws) ≡ Some q → Says p (a ∷ ws) q
back_step p q a ws plain e =
    let taken = then_some_some (step_of p (a ∷ ws)) (λ s. Some (with_step p s)) q e in
    subst (Says p (a ∷ ws)) (same_Some (with_step p taken.0) q taken.2) (back_act p a ws taken.0 plain taken.1)

back_kind : (p q : Play) (a : Word) (ws : List Word) (t u v : Bool) → bytes_eq a (codes "tag") ≡ t → bytes_eq a (codes "actor") ≡ u → bytes_eq a (codes "cell") ≡ v →
    cond t (after_tag p ws) (cond u (after_actor p ws) (cond v (after_cell p ws) (after_step p (a ∷ ws)))) ≡ Some q → Says p (a ∷ ws) q
back_kind p q a ws true u v is_tag is_actor is_cell e = subst (λ (x : Word). Says p (x ∷ ws) q) (is_text a (codes "tag") is_tag) (back_tag p q ws e)
back_kind p q a ws false true v is_tag is_actor is_cell e = subst (λ (x : Word). Says p (x ∷ ws) q) (is_text a (codes "actor") is_actor) (back_actor p q ws e)
back_kind p q a ws false false true is_tag is_actor is_cell e = subst (λ (x : Word). Says p (x ∷ ws) q) (is_text a (codes "cell") is_cell) (back_cell p q ws e)
back_kind p q a ws false false false is_tag is_actor is_cell e = back_step p q a ws (rw (is_tag, is_actor, is_cell) refl) e

back_words : (p q : Play) (ws : List Word) → after_words p ws ≡ Some q → Says p ws q
back_words p q [] e = absurd cc
back_words p q (a ∷ ws) e = back_kind p q a ws (bytes_eq a (codes "tag")) (bytes_eq a (codes "actor")) (bytes_eq a (codes "cell")) refl refl refl e

-- ---- lines

pub line_said : (p q : Play) (line : Word) → after_line p line ≡ Some q → LineSays p line q
line_said p q line e =
    let both = when_some (is_ascii line) (after_words p (pieces 32 line)) q e in
    record { words = pieces 32 line; line_is = sym (parted-pieces 32 line); no_spaces = pieces_lack 32 line; ascii = both.0; says = back_words p q (pieces 32 line) both.1 }

pub lines_are_exact : LinesAreExact
lines_are_exact p q line = (line_read p q line, line_said p q line)

last_number : (number : ℕ) → leb number 65536 ≡ false → number ≤ 65537 → number ≡ 65537
last_number number e within = let past : 65536 < number = grind (arith, nat_tests) in omega arith

record Lines (p r : Play) (ps : List Word) (number : ℕ) : Type 0 where
  lines : List Word
  text_is : parted 10 ps ≡ ended lines
  no_feeds : each_lacks 10 lines ≡ true
  few : number + length lines ≤ 65537
  go : Goes p lines r

line_ok : {A : Type 0} (o : Option A) (number : ℕ) (f : A → Result A ℕ) (r : A) → or_line o number f ≡ Ok r → (x : A) × (o ≡ Some x) × (f x ≡ Ok r)
line_ok None number f r e = absurd cc
line_ok (Some x) number f r e = (x, refl, e)

one_line : (p r : Play) (l : Word) (rest : List Word) (number : ℕ) → number ≤ 65537 → lacks 10 l ≡ true → ((q : Play) → number + 1 ≤ 65537 → read_lines q rest (number + 1) ≡ Ok r → Lines q r rest (number + 1)) → read_lines p (l ∷ rest) number ≡ Ok r → Lines p r (l ∷ rest) number
one_line p r [] [] number within lack further e = record { lines = []; text_is = refl; no_feeds = refl; few = omega arith; go = cc }
one_line p r (b ∷ bs) [] number within lack further e = absurd cc
one_line p r l (m ∷ ms) number within lack further e =
    let line = line_ok (at_line p l number) number (λ q. read_lines q (m ∷ ms) (number + 1)) r e in
    let both = when_some (leb number 65536) (after_line p l) line.0 line.1 in
    let within_next : number ≤ 65536 = leb-true number 65536 both.0 in
    let more = further line.0 (omega arith) line.2 in
    record {
      lines = l ∷ more.lines;
      text_is = ap (λ t. l ++ 10 ∷ t) more.text_is;
      no_feeds = rw lack more.no_feeds;
      few = omega (arith, more.few);
      go = (line.0, line_said p line.0 l both.1, more.go);
    }

back_lines : (p r : Play) (ps : List Word) (number : ℕ) → number ≤ 65537 → each_lacks 10 ps ≡ true → read_lines p ps number ≡ Ok r → Lines p r ps number
back_lines p r [] number within lack e = record { lines = []; text_is = refl; no_feeds = refl; few = omega arith; go = cc }
back_lines p r (l ∷ rest) number within lack e =
    let both = and_parts (lacks 10 l) (each_lacks 10 rest) lack in
    one_line p r l rest number within both.0 (λ q w h. back_lines q r rest (number + 1) w both.1 h) e

script_spelt : (text : Word) (p : Play) → read_script text ≡ Ok p → Spells text p
script_spelt text p e =
    let found = back_lines nothing p (pieces 10 text) 1 (omega arith) (pieces_lack 10 text) e in
    record {
      lines = found.lines;
      text_is = sym (parted-pieces 10 text) ∙ found.text_is;
      no_feeds = found.no_feeds;
      few = omega (arith, found.few);
      go = found.go;
    }

pub scripts_are_exact : ScriptsAreExact
scripts_are_exact text p = (script_read text p, script_spelt text p)

-- ---- breaks

refused : {A : Type 0} (t : Bool) (o : Option A) → o ≡ None → when t o ≡ None
refused true o e = e
refused false o e = refl

not_said : (p : Play) (line : Word) → ((q : Play) → LineSays p line q → ⊥) → after_line p line ≡ None
not_said p line silent = decide (after_line p line) refl
  where
    decide : (o : Option Play) → after_line p line ≡ o → after_line p line ≡ None
    decide None e = e
    decide (Some q) e = absurd (silent q (line_said p q line e))

stopped : (p : Play) (line more : Word) (number : ℕ) → lacks 10 line ≡ true → at_line p line number ≡ None → read_lines p (pieces 10 (line ++ 10 ∷ more)) number ≡ Err number
stopped p line more number lack e =
    ap (λ ps. read_lines p ps number) (line_first line more lack)
    ∙ more_pieces 10 more (at_end p line number) (or_line (at_line p line number) number (λ q. read_lines q (pieces 10 more) (number + 1)))
    ∙ ap (λ o. or_line o number (λ q. read_lines q (pieces 10 more) (number + 1))) e

break_named : (p : Play) (number : ℕ) (rest : Word) → Breaks p number rest → read_lines p (pieces 10 rest) number ≡ Err number
break_named p number rest (open_line b bs lack) = ap (λ ps. read_lines p ps number) (one_piece 10 (b ∷ bs) lack)
break_named p number rest (says_nothing line more lack silent) = stopped p line more number lack (refused (leb number 65536) (after_line p line) (not_said p line silent))
break_named p number rest (one_too_many line more lack last) =
    stopped p line more number lack (ap (λ (n : ℕ). when (leb n 65536) (after_line p line)) last)

break_read : (text : Word) (n : ℕ) → FirstBroken text n → read_script text ≡ Err n
break_read text n b =
    let few : length b.lines ≤ 65536 = b.few in
    let same : 1 + length b.lines ≡ n = let is : n ≡ length b.lines + 1 = b.number in omega arith in
    ap read_script b.text_is
    ∙ lines_go nothing b.play b.lines b.rest 1 b.no_feeds (omega arith) b.go
    ∙ ap (λ (k : ℕ). read_lines b.play (pieces 10 b.rest) k) same
    ∙ break_named b.play n b.rest b.breaks

record Broken (p : Play) (ps : List Word) (number n : ℕ) : Type 0 where
  lines : List Word
  rest : Word
  play : Play
  text_is : parted 10 ps ≡ ended lines ++ rest
  no_feeds : each_lacks 10 lines ≡ true
  few : number + length lines ≤ 65537
  number_is : n ≡ number + length lines
  go : Goes p lines play
  breaks : Breaks play n rest

here : (p : Play) (ps : List Word) (number n : ℕ) → number ≤ 65537 → number ≡ n → Breaks p number (parted 10 ps) → Broken p ps number n
here p ps number n within same breaks = record {
  lines = [];
  rest = parted 10 ps;
  play = p;
  text_is = refl;
  no_feeds = refl;
  few = omega arith;
  number_is = let e : number + zero ≡ number = omega arith in sym same ∙ sym e;
  go = refl;
  breaks = subst (λ (k : ℕ). Breaks p k (parted 10 ps)) same breaks;
}

no_line : (p : Play) (l : Word) (number : ℕ) (more : Word) → number ≤ 65537 → lacks 10 l ≡ true → at_line p l number ≡ None → Breaks p number (l ++ 10 ∷ more)
no_line p l number more within lack e = by_number (leb number 65536) refl e
  where
    silent : after_line p l ≡ None → (q : Play) → LineSays p l q → ⊥
    silent none q says = none-some q (sym none ∙ line_read p q l says)

    by_number : (t : Bool) → leb number 65536 ≡ t → when t (after_line p l) ≡ None → Breaks p number (l ++ 10 ∷ more)
    by_number true low none = says_nothing l more lack (silent none)
    by_number false past none = one_too_many l more lack (last_number number past within)

one_broken : (p : Play) (l : Word) (rest : List Word) (number n : ℕ) → number ≤ 65537 → lacks 10 l ≡ true → ((q : Play) → number + 1 ≤ 65537 → read_lines q rest (number + 1) ≡ Err n → Broken q rest (number + 1) n) → read_lines p (l ∷ rest) number ≡ Err n → Broken p (l ∷ rest) number n
one_broken p [] [] number n within lack further e = absurd cc
one_broken p (b ∷ bs) [] number n within lack further e =
    here p ((b ∷ bs) ∷ []) number n within (cc) (subst (Breaks p number) (sym (append-nil (b ∷ bs))) (open_line b bs lack))
one_broken p l (m ∷ ms) number n within lack further e = by_line (at_line p l number) refl e
  where
    by_line : (o : Option Play) → at_line p l number ≡ o → or_line o number (λ q. read_lines q (m ∷ ms) (number + 1)) ≡ Err n → Broken p (l ∷ m ∷ ms) number n
    by_line None none h = here p (l ∷ m ∷ ms) number n within (cc) (no_line p l number (parted 10 (m ∷ ms)) within lack none)
    by_line (Some q) some h =
        let both = when_some (leb number 65536) (after_line p l) q some in
        let low : number ≤ 65536 = leb-true number 65536 both.0 in
        let more = further q (omega arith) h in
        record {
          lines = l ∷ more.lines;
          rest = more.rest;
          play = more.play;
          text_is = ap (λ t. l ++ 10 ∷ t) more.text_is ∙ sym (append_assoc l (10 ∷ ended more.lines) more.rest);
          no_feeds = rw lack more.no_feeds;
          few = omega (arith, more.few);
          number_is = more.number_is ∙ omega arith;
          go = (q, line_said p q l both.1, more.go);
          breaks = more.breaks;
        }

back_broken : (p : Play) (ps : List Word) (number n : ℕ) → number ≤ 65537 → each_lacks 10 ps ≡ true → read_lines p ps number ≡ Err n → Broken p ps number n
back_broken p [] number n within lack e = absurd cc
back_broken p (l ∷ rest) number n within lack e =
    let both = and_parts (lacks 10 l) (each_lacks 10 rest) lack in
    one_broken p l rest number n within both.0 (λ q w h. back_broken q rest (number + 1) n w both.1 h) e

break_spelt : (text : Word) (n : ℕ) → read_script text ≡ Err n → FirstBroken text n
break_spelt text n e =
    let found = back_broken nothing (pieces 10 text) 1 n (omega arith) (pieces_lack 10 text) e in
    record {
      lines = found.lines;
      rest = found.rest;
      play = found.play;
      text_is = sym (parted-pieces 10 text) ∙ found.text_is;
      no_feeds = found.no_feeds;
      few = omega (arith, found.few);
      number = found.number_is ∙ omega arith;
      go = found.go;
      breaks = found.breaks;
    }

pub breaks_are_exact : BreaksAreExact
breaks_are_exact text n = (break_read text n, break_spelt text n)
