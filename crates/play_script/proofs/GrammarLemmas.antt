-- What is spelt is what is read.
use Rattle.std.proofs.Common.{◌≡◌, ℕ, zero, suc, ◌+◌, ◌≤◌, ◌||◌, not, codes, Bool, true, false, cond, eqb, leb, List, [], ◌∷◌, ◌++◌, length, refl, sym, ap, ◌∙◌, arith, Option, Some, Ok, append_assoc, append-nil}
use Rattle.std.specs.Str.{bytes_eq}
use Rattle.std.proofs.lemmas.Bool.{and_parts, eq-eqb, not-true}
use Rattle.std.proofs.lemmas.Bool.Decides.{nat_tests}
use Rattle.flow_labels.specs.Names.{place_of}
use Rattle.flow_labels.specs.LabelText.{label_of}
use Rattle.capabilities.specs.Changes.{no_caps}
use Rattle.capabilities.specs.CapsText.{caps_of}
use Rattle.capabilities.specs.Kinds.{kind_of}
use Rattle.capabilities.specs.declared.kinds.TagKind.TheVariants.{Read as read_kind}
use Rattle.play_script.specs.declared.Step.{Step}
use Rattle.play_script.specs.declared.Step.TheVariants.{Read, Write, Copy}
use Rattle.play_script.specs.Pieces.{Word, pieces, onto_first, after_mark, parted, ended, lacks, each_lacks}
use Rattle.decimal_text.specs.Decimal.{int_of}
use Rattle.play_script.specs.Script.{Play, nothing, is_ascii, may_declare, with_tag, with_actor, with_cell, with_step, when, ok_of, then_some, kind_in, actor_in, cell_in, after_tag, after_actor, after_cell, read_of, write_of, copy_of, step_of, after_step, after_words, after_line, at_line, or_line, at_end, read_lines, read_script}
use Rattle.play_script.specs.Grammar.{begins_step, Says, LineSays, Goes, Spells}
use Rattle.play_script.specs.Grammar.Says.{tag, kind, actor, holder, cell, reads, writes, copies}
use Rattle.play_script.proofs.LineLemmas.{more_pieces}

-- a piece before a mark or before the end
pub piece_first : (mark : ℕ) (w rest : Word) (ps : List Word) → lacks mark w ≡ true → pieces mark rest ≡ [] ∷ ps → pieces mark (w ++ rest) ≡ w ∷ ps
piece_first mark [] rest ps e h = h
piece_first mark (b ∷ bs) rest ps e h =
    let both : (not (eqb b mark) ≡ true) × (lacks mark bs ≡ true) = and_parts (not (eqb b mark)) (lacks mark bs) e in
    rw (not-true (eqb b mark) both.0) (ap (onto_first b) (piece_first mark bs rest ps both.1 h))

at_mark : (mark : ℕ) (rest : Word) → pieces mark (mark ∷ rest) ≡ [] ∷ pieces mark rest
at_mark mark rest = rw (eq-eqb mark mark refl) refl

-- the pieces of a line and what follows it
pub line_first : (line more : Word) → lacks 10 line ≡ true → pieces 10 (line ++ 10 ∷ more) ≡ line ∷ pieces 10 more
line_first line more e = piece_first 10 line (10 ∷ more) (pieces 10 more) e (at_mark 10 more)

-- a text without the mark is one piece
pub one_piece : (mark : ℕ) (w : Word) → lacks mark w ≡ true → pieces mark w ≡ w ∷ []
one_piece mark w e = sym (ap (pieces mark) (append-nil w)) ∙ piece_first mark w [] [] e refl

pub pieces-parted : (mark : ℕ) (w : Word) (ws : List Word) → each_lacks mark (w ∷ ws) ≡ true → pieces mark (parted mark (w ∷ ws)) ≡ w ∷ ws
pieces-parted mark w [] e = piece_first mark w [] [] (and_parts (lacks mark w) true e).0 refl
pieces-parted mark w (v ∷ ws) e =
    let both : (lacks mark w ≡ true) × (each_lacks mark (v ∷ ws) ≡ true) = and_parts (lacks mark w) (each_lacks mark (v ∷ ws)) e in
    piece_first mark w (after_mark mark (v ∷ ws)) (v ∷ ws) both.0 (at_mark mark (parted mark (v ∷ ws)) ∙ ap (λ ps. [] ∷ ps) (pieces-parted mark v ws both.1))

-- ---- words

holds : {A : Type 0} (b : Bool) (o : Option A) → b ≡ true → when b o ≡ o
holds true o e = refl
holds false o e = absurd cc

found : {A B : Type 0} (o : Option A) (x : A) (f : A → Option B) → o ≡ Some x → then_some o f ≡ f x
found o x f e = ap (λ r. then_some r f) e

begins : (p q : Play) (a : Word) (more : List Word) (t u v : Bool) → not (t || (u || v)) ≡ true → after_step p (a ∷ more) ≡ Some q → cond t (after_tag p more) (cond u (after_actor p more) (cond v (after_cell p more) (after_step p (a ∷ more)))) ≡ Some q
begins p q a more false false false e h = h
begins p q a more t u v e h = absurd cc

step_said : (p : Play) (a : Word) (more : List Word) (s : Step) → begins_step a ≡ true → step_of p (a ∷ more) ≡ Some s → after_words p (a ∷ more) ≡ Some (with_step p s)
step_said p a more s plain h = begins p (with_step p s) a more (bytes_eq a (codes "tag")) (bytes_eq a (codes "actor")) (bytes_eq a (codes "cell")) plain (found (step_of p (a ∷ more)) s (λ x. Some (with_step p x)) h)

pub words_read : (p q : Play) (ws : List Word) → Says p ws q → after_words p ws ≡ Some q
words_read p q ws (tag n may) = holds (may_declare p n) (Some (with_tag p n read_kind)) may
words_read p q ws (kind n w k may named) = holds (may_declare p n) (then_some (kind_in (w ∷ [])) (λ k. Some (with_tag p n k))) may ∙ found (kind_of w) k (λ k. Some (with_tag p n k)) named
words_read p q ws (actor n l label may labelled) =
    holds (may_declare p n) (then_some (actor_in p.tags l []) (λ a. Some (with_actor p n a))) may
    ∙ found (actor_in p.tags l []) (record { label = label; caps = no_caps }) (λ a. Some (with_actor p n a))
    (found (ok_of (label_of p.tags l)) label (λ x. Some (record { label = x; caps = no_caps })) (ap ok_of labelled))
words_read p q ws (holder n l c label caps may labelled held) =
    holds (may_declare p n) (then_some (actor_in p.tags l (c ∷ [])) (λ a. Some (with_actor p n a))) may
    ∙ found (actor_in p.tags l (c ∷ [])) (record { label = label; caps = caps }) (λ a. Some (with_actor p n a))
    (found (ok_of (label_of p.tags l)) label (λ x. then_some (ok_of (caps_of p.tags c)) (λ y. Some (record { label = x; caps = y }))) (ap ok_of labelled)
    ∙ found (ok_of (caps_of p.tags c)) caps (λ y. Some (record { label = label; caps = y })) (ap ok_of held))
words_read p q ws (cell n l v label value may labelled number) =
    holds (may_declare p n) (then_some (cell_in p.tags l v) (λ c. Some (with_cell p n c))) may
    ∙ found (cell_in p.tags l v) (record { label = label; value = value }) (λ c. Some (with_cell p n c))
    (found (ok_of (label_of p.tags l)) label (λ x. then_some (int_of v) (λ z. Some (record { label = x; value = z }))) (ap ok_of labelled)
    ∙ found (int_of v) value (λ z. Some (record { label = label; value = z })) number)
words_read p q ws (reads a c who what plain named there) =
    step_said p a (codes "read" ∷ c ∷ []) (Read who what) plain
    (found (place_of p.actor_names a) who (λ x. read_of p.cell_names x (c ∷ [])) named ∙ found (place_of p.cell_names c) what (λ y. Some (Read who y)) there)
words_read p q ws (writes a c v who what value plain named there number) =
    step_said p a (codes "write" ∷ c ∷ v ∷ []) (Write who what value) plain
    (found (place_of p.actor_names a) who (λ x. write_of p.cell_names x (c ∷ v ∷ [])) named
    ∙ found (place_of p.cell_names c) what (λ y. then_some (int_of v) (λ z. Some (Write who y z))) there
    ∙ found (int_of v) value (λ z. Some (Write who what z)) number)
words_read p q ws (copies a c d who from to plain named there here) =
    step_said p a (codes "copy" ∷ c ∷ d ∷ []) (Copy who from to) plain
    (found (place_of p.actor_names a) who (λ x. copy_of p.cell_names x (c ∷ d ∷ [])) named
    ∙ found (place_of p.cell_names c) from (λ y. then_some (place_of p.cell_names d) (λ z. Some (Copy who y z))) there
    ∙ found (place_of p.cell_names d) to (λ z. Some (Copy who from z)) here)

-- ---- lines

spaced : (p q : Play) (ws : List Word) → Says p ws q → each_lacks 32 ws ≡ true → after_words p (pieces 32 (parted 32 ws)) ≡ Some q
spaced p q [] s e = absurd (silent s)
  where
    silent : Says p [] q → ⊥
    silent s = elim s [ ]
spaced p q (w ∷ ws) s e = ap (after_words p) (pieces-parted 32 w ws e) ∙ words_read p q (w ∷ ws) s

pub line_read : (p q : Play) (line : Word) → LineSays p line q → after_line p line ≡ Some q
line_read p q line says =
    holds (is_ascii line) (after_words p (pieces 32 line)) says.ascii
    ∙ ap (λ t. after_words p (pieces 32 t)) says.line_is
    ∙ spaced p q says.words says.says says.no_spaces

-- the reading of lines that go on, and of what follows them
pub lines_go : (p r : Play) (ls : List Word) (rest : Word) (number : ℕ) → each_lacks 10 ls ≡ true → number + length ls ≤ 65537 → Goes p ls r → read_lines p (pieces 10 (ended ls ++ rest)) number ≡ read_lines r (pieces 10 rest) (number + length ls)
lines_go p r [] rest number e within h =
    let same : number + zero ≡ number = omega arith in
    ap (λ q. read_lines q (pieces 10 rest) number) h ∙ ap (λ (n : ℕ). read_lines r (pieces 10 rest) n) (sym same)
lines_go p r (l ∷ ls) rest number e within h =
    let both : (lacks 10 l ≡ true) × (each_lacks 10 ls ≡ true) = and_parts (lacks 10 l) (each_lacks 10 ls) e in
    let test : leb number 65536 ≡ true = grind (arith, nat_tests) in
    let next : number + 1 + length ls ≡ number + suc (length ls) = omega arith in
    ap (λ t. read_lines p (pieces 10 t) number) (append_assoc l (10 ∷ ended ls) rest)
    ∙ ap (λ ps. read_lines p ps number) (line_first l (ended ls ++ rest) both.0)
    ∙ more_pieces 10 (ended ls ++ rest) (at_end p l number) (or_line (at_line p l number) number (λ q. read_lines q (pieces 10 (ended ls ++ rest)) (number + 1)))
    ∙ ap (λ o. or_line o number (λ q. read_lines q (pieces 10 (ended ls ++ rest)) (number + 1))) (holds (leb number 65536) (after_line p l) test ∙ line_read p h.0 l h.1)
    ∙ lines_go h.0 r ls rest (number + 1) both.1 (omega arith) h.2
    ∙ ap (λ (n : ℕ). read_lines r (pieces 10 rest) n) next

pub script_read : (text : Word) (p : Play) → Spells text p → read_script text ≡ Ok p
script_read text p s =
    ap read_script (s.text_is ∙ sym (append-nil (ended s.lines)))
    ∙ lines_go nothing p s.lines [] 1 s.no_feeds (let few : length s.lines ≤ 65536 = s.few in omega arith) s.go
