-- What was read is whole.
use Rattle.std.proofs.Common.{◌≡◌, ℕ, zero, ◌+◌, ◌<◌, ◌||◌, not, Bool, true, false, cond, List, [], ◌∷◌, ◌++◌, length, refl, sym, ap, ◌∙◌, subst, arith, Some, Ok, append_assoc, append-nil, is_none, length-append}
use Rattle.std.specs.List.{All, list_all, list_any, position_from}
use Rattle.std.specs.Str.{bytes_eq}
use Rattle.std.specs.Bool.{Decides}
use Rattle.std.proofs.lemmas.Bool.{and_parts, or_parts}
use Rattle.std.proofs.lemmas.Bool.Decides.{same_from_decides}
use Rattle.std.proofs.lemmas.Iterator.Adapters.{position_from-zero}
use Rattle.std.proofs.lemmas.List.Elements.{All-append, All-nil, All-cons}
use Rattle.std.proofs.lemmas.List.Folds.{list_any-append}
use Rattle.std.proofs.lemmas.List.Quantifiers.{position-Some}
use Rattle.std.proofs.lemmas.Slice.Eq.{bytes_eq-Decides}
use Rattle.flow_labels.specs.Names.{is_name, place_of, AreNames}
use Rattle.capabilities.specs.Changes.{no_caps}
use Rattle.capabilities.specs.declared.kinds.TagKind.{TagKind}
use Rattle.capabilities.specs.declared.kinds.TagKind.TheVariants.{Read as read_kind}
use Rattle.play_script.specs.Pieces.{Word}
use Rattle.play_script.specs.declared.Actor.{Actor}
use Rattle.play_script.specs.declared.Cell.{Cell}
use Rattle.play_script.specs.declared.Step.{Step}
use Rattle.play_script.specs.declared.Step.TheVariants.{Read, Write, Copy}
use Rattle.play_script.specs.Script.{Play, nothing, is_empty, is_free, is_reserved, may_declare, with_tag, with_actor, with_cell, with_step, read_script}
use Rattle.play_script.specs.Grammar.{Says, Goes}
use Rattle.play_script.specs.Grammar.Says.{tag, kind, actor, holder, cell, reads, writes, copies}
use Rattle.play_script.specs.Whole.{all_names, IsDeclared, size, IsWhole}
use Rattle.play_script.proofs.BackLemmas.{scripts_are_exact}

-- ---- names

bytes_eq_sym : (xs ys : List ℕ) → bytes_eq xs ys ≡ bytes_eq ys xs
bytes_eq_sym xs ys =
    let there : Decides (bytes_eq xs ys) (xs ≡ ys) = bytes_eq-Decides xs ys in
    let back : Decides (bytes_eq ys xs) (ys ≡ xs) = bytes_eq-Decides ys xs in
    same_from_decides {P = xs ≡ ys} (bytes_eq xs ys) (bytes_eq ys xs) there ((λ e. sym (back.0 e)), (λ e. back.1 (sym e)))

none_passes : (t : Word → Bool) (i : ℕ) (xs : List Word) → is_none (position_from t i xs) ≡ true → list_any t xs ≡ false
none_passes t i [] = λ e. refl
none_passes t i (x ∷ xs) =
    elim (t x) as (λ b. is_none (cond b (Some i) (position_from t (i + 1) xs)) ≡ true → (b || list_any t xs) ≡ false) [ true ↦ λ e. cc | false ↦ λ e. none_passes t (i + 1) xs e ]

-- a name that has no place is none of the names
no_name : (ns : List Word) (n : Word) → is_none (place_of ns n) ≡ true → list_any (bytes_eq n) ns ≡ false
no_name ns n none = none_passes (bytes_eq n) 0 ns (ap is_none (sym (position_from-zero (bytes_eq n) ns)) ∙ none)

any_both : (t : Word → Bool) (xs ys : List Word) → list_any t xs ≡ false → list_any t ys ≡ false → list_any t (xs ++ ys) ≡ false
any_both t xs ys left right = list_any-append t xs ys ∙ rw (left, right) refl

any_insert : (t : Word → Bool) (xs ys : List Word) (n : Word) → list_any t (xs ++ ys) ≡ false → t n ≡ false → list_any t (xs ++ n ∷ ys) ≡ false
any_insert t [] ys n e other = rw other e
any_insert t (x ∷ xs) ys n e other =
    let parts : (t x ≡ false) × (list_any t (xs ++ ys) ≡ false) = or_parts (t x) (list_any t (xs ++ ys)) e in
    rw parts.0 (any_insert t xs ys n parts.1 other)

names_insert : (xs ys : List Word) (n : Word) → AreNames (xs ++ ys) → is_name n ≡ true → list_any (bytes_eq n) (xs ++ ys) ≡ false → AreNames (xs ++ n ∷ ys)
names_insert [] ys n names good fresh = (good, fresh, names)
names_insert (x ∷ xs) ys n names good fresh =
    let parts : (bytes_eq n x ≡ false) × (list_any (bytes_eq n) (xs ++ ys) ≡ false) = or_parts (bytes_eq n x) (list_any (bytes_eq n) (xs ++ ys)) fresh in
    (names.0, any_insert (bytes_eq x) xs ys n names.1 (bytes_eq_sym x n ∙ parts.0), names_insert xs ys n names.2 good parts.1)

all_insert : (t : Word → Bool) (xs ys : List Word) (n : Word) → list_all t (xs ++ ys) ≡ true → t n ≡ true → list_all t (xs ++ n ∷ ys) ≡ true
all_insert t [] ys n e good = rw good e
all_insert t (x ∷ xs) ys n e good =
    let parts : (t x ≡ true) × (list_all t (xs ++ ys) ≡ true) = and_parts (t x) (list_all t (xs ++ ys)) e in
    rw parts.0 (all_insert t xs ys n parts.1 good)

-- a list of names that may be the name space of a script
record AreScriptNames (ns : List Word) : Type 0 where
  names : AreNames ns
  unreserved : list_all (λ n. not (is_reserved n)) ns ≡ true

record MayStand (p : Play) (n : Word) : Type 0 where
  no_steps : is_empty p.steps ≡ true
  named : is_name n ≡ true
  unreserved : not (is_reserved n) ≡ true
  fresh : list_any (bytes_eq n) (all_names p) ≡ false

may_stand : (p : Play) (n : Word) → may_declare p n ≡ true → MayStand p n
may_stand p n e =
    let one = and_parts (is_empty p.steps) _ e in
    let two = and_parts (is_name n) _ one.1 in
    let three = and_parts (not (is_reserved n)) (is_free p n) two.1 in
    let tags = and_parts (is_none (place_of p.tags n)) _ three.1 in
    let rest = and_parts (is_none (place_of p.actor_names n)) (is_none (place_of p.cell_names n)) tags.1 in
    record {
      no_steps = one.0;
      named = two.0;
      unreserved = three.0;
      fresh = any_both (bytes_eq n) p.tags (p.actor_names ++ p.cell_names) (no_name p.tags n tags.0)
          (any_both (bytes_eq n) p.actor_names p.cell_names (no_name p.actor_names n rest.0) (no_name p.cell_names n rest.1));
    }

insert : (xs ys ns new : List Word) (n : Word) → ns ≡ xs ++ ys → new ≡ xs ++ n ∷ ys → AreScriptNames ns → is_name n ≡ true → not (is_reserved n) ≡ true → list_any (bytes_eq n) ns ≡ false → AreScriptNames new
insert xs ys ns new n old made good named plain fresh =
    subst AreScriptNames (sym made) (record {
      names = names_insert xs ys n (subst AreNames old good.names) named (ap (list_any (bytes_eq n)) (sym old) ∙ fresh);
      unreserved = all_insert (λ m. not (is_reserved m)) xs ys n (ap (list_all (λ m. not (is_reserved m))) (sym old) ∙ good.unreserved) plain;
    })

tag_space : (p : Play) (n : Word) (k : TagKind) → AreScriptNames (all_names p) → MayStand p n → AreScriptNames (all_names (with_tag p n k))
tag_space p n k good may =
    insert p.tags (p.actor_names ++ p.cell_names) (all_names p) (all_names (with_tag p n k)) n refl (append_assoc p.tags (n ∷ []) (p.actor_names ++ p.cell_names)) good may.named may.unreserved may.fresh

actor_space : (p : Play) (n : Word) (a : Actor) → AreScriptNames (all_names p) → MayStand p n → AreScriptNames (all_names (with_actor p n a))
actor_space p n a good may =
    insert (p.tags ++ p.actor_names) p.cell_names (all_names p) (all_names (with_actor p n a)) n (sym (append_assoc p.tags p.actor_names p.cell_names))
    (ap (λ r. p.tags ++ r) (append_assoc p.actor_names (n ∷ []) p.cell_names) ∙ sym (append_assoc p.tags p.actor_names (n ∷ p.cell_names)))
    good may.named may.unreserved may.fresh

cell_space : (p : Play) (n : Word) (c : Cell) → AreScriptNames (all_names p) → MayStand p n → AreScriptNames (all_names (with_cell p n c))
cell_space p n c good may =
    insert (all_names p) [] (all_names p) (all_names (with_cell p n c)) n (sym (append-nil (all_names p)))
    (ap (λ r. p.tags ++ r) (sym (append_assoc p.actor_names p.cell_names (n ∷ []))) ∙ sym (append_assoc p.tags (p.actor_names ++ p.cell_names) (n ∷ [])))
    good may.named may.unreserved may.fresh

-- ---- steps

none_all : {X : Type 0} (P : X → Type 0) (xs : List X) → is_empty xs ≡ true → All P xs
none_all P [] e = All-nil P
none_all P (x ∷ xs) e = absurd cc

one_more : {X : Type 0} (xs : List X) (x : X) → length (xs ++ x ∷ []) ≡ length xs + 1
one_more xs x = length-append xs (x ∷ [])

both_more : {X Y : Type 0} (xs : List X) (ys : List Y) (x : X) (y : Y) → length xs ≡ length ys → length (xs ++ x ∷ []) ≡ length (ys ++ y ∷ [])
both_more xs ys x y same = one_more xs x ∙ ap (λ (n : ℕ). n + 1) same ∙ sym (one_more ys y)

placed : (names : List Word) (n : Word) (at : ℕ) → place_of names n ≡ Some at → at < length names
placed names n at e = (position-Some (bytes_eq n) names at [] e).0

-- ---- lines

-- all that a whole play has but its size
record IsSound (p : Play) : Type 0 where
  kinds : length p.tags ≡ length p.kinds
  actors : length p.actor_names ≡ length p.actors
  cells : length p.cell_names ≡ length p.cells
  space : AreScriptNames (all_names p)
  steps : All (IsDeclared p) p.steps

with_tag_sound : (p : Play) (n : Word) (k : TagKind) → IsSound p → may_declare p n ≡ true → IsSound (with_tag p n k)
with_tag_sound p n k s e =
    let may = may_stand p n e in
    record {
      kinds = both_more p.tags p.kinds n k s.kinds;
      actors = s.actors;
      cells = s.cells;
      space = tag_space p n k s.space may;
      steps = none_all (IsDeclared (with_tag p n k)) p.steps may.no_steps;
    }

with_actor_sound : (p : Play) (n : Word) (a : Actor) → IsSound p → may_declare p n ≡ true → IsSound (with_actor p n a)
with_actor_sound p n a s e =
    let may = may_stand p n e in
    record {
      kinds = s.kinds;
      actors = both_more p.actor_names p.actors n a s.actors;
      cells = s.cells;
      space = actor_space p n a s.space may;
      steps = none_all (IsDeclared (with_actor p n a)) p.steps may.no_steps;
    }

with_cell_sound : (p : Play) (n : Word) (c : Cell) → IsSound p → may_declare p n ≡ true → IsSound (with_cell p n c)
with_cell_sound p n c s e =
    let may = may_stand p n e in
    record {
      kinds = s.kinds;
      actors = s.actors;
      cells = both_more p.cell_names p.cells n c s.cells;
      space = cell_space p n c s.space may;
      steps = none_all (IsDeclared (with_cell p n c)) p.steps may.no_steps;
    }

with_step_sound : (p : Play) (t : Step) → IsSound p → IsDeclared p t → IsSound (with_step p t)
with_step_sound p t s declared =
    record { kinds = s.kinds; actors = s.actors; cells = s.cells; space = s.space; steps = All-append (IsDeclared p) p.steps (t ∷ []) s.steps (All-cons (IsDeclared p) t [] declared (All-nil (IsDeclared p))) }

here : (names : List Word) (count : ℕ) (n : Word) (at : ℕ) → length names ≡ count → place_of names n ≡ Some at → at < count
here names count n at same e = subst (λ (k : ℕ). at < k) same (placed names n at e)

sound_after : (p q : Play) (ws : List Word) → IsSound p → Says p ws q → IsSound q
sound_after p q ws s (tag n may) = with_tag_sound p n read_kind s may
sound_after p q ws s (kind n w k may named) = with_tag_sound p n k s may
sound_after p q ws s (actor n l label may labelled) = with_actor_sound p n (record { label = label; caps = no_caps }) s may
sound_after p q ws s (holder n l c label caps may labelled held) = with_actor_sound p n (record { label = label; caps = caps }) s may
sound_after p q ws s (cell n l v label value may labelled number) = with_cell_sound p n (record { label = label; value = value }) s may
sound_after p q ws s (reads a c who what plain named there) =
    with_step_sound p (Read who what) s (here p.actor_names (length p.actors) a who s.actors named, here p.cell_names (length p.cells) c what s.cells there)
sound_after p q ws s (writes a c v who what value plain named there number) =
    with_step_sound p (Write who what value) s (here p.actor_names (length p.actors) a who s.actors named, here p.cell_names (length p.cells) c what s.cells there)
sound_after p q ws s (copies a c d who from to plain named there other) =
    with_step_sound p (Copy who from to) s (here p.actor_names (length p.actors) a who s.actors named, here p.cell_names (length p.cells) c from s.cells there, here p.cell_names (length p.cells) d to s.cells other)

-- each line adds one
size_after : (p q : Play) (ws : List Word) → Says p ws q → size q ≡ size p + 1
size_after p q ws (tag n may) = let e : length (p.tags ++ n ∷ []) ≡ length p.tags + 1 = one_more p.tags n in omega arith
size_after p q ws (kind n w k may named) = let e : length (p.tags ++ n ∷ []) ≡ length p.tags + 1 = one_more p.tags n in omega arith
size_after p q ws (actor n l label may labelled) = let e : _ = one_more p.actors (record { label = label; caps = no_caps }) in omega arith
size_after p q ws (holder n l c label caps may labelled held) = let e : _ = one_more p.actors (record { label = label; caps = caps }) in omega arith
size_after p q ws (cell n l v label value may labelled number) = let e : _ = one_more p.cells (record { label = label; value = value }) in omega arith
size_after p q ws (reads a c who what plain named there) = let e : _ = one_more p.steps (Read who what) in omega arith
size_after p q ws (writes a c v who what value plain named there number) = let e : _ = one_more p.steps (Write who what value) in omega arith
size_after p q ws (copies a c d who from to plain named there other) = let e : _ = one_more p.steps (Copy who from to) in omega arith

sound_goes : (p r : Play) (ls : List Word) → IsSound p → Goes p ls r → IsSound r
sound_goes p r [] s e = subst IsSound e s
sound_goes p r (l ∷ ls) s h = sound_goes h.0 r ls (sound_after p h.0 h.1.words s h.1.says) h.2

size_goes : (p r : Play) (ls : List Word) → Goes p ls r → size r ≡ size p + length ls
size_goes p r [] e = let same : size p + zero ≡ size p = omega arith in sym (ap size e) ∙ sym same
size_goes p r (l ∷ ls) h =
    let first = size_after p h.0 h.1.words h.1.says in
    let rest = size_goes h.0 r ls h.2 in
    omega (arith, first, rest)

nothing_sound : IsSound nothing
nothing_sound = record { kinds = refl; actors = refl; cells = refl; space = record { names = tt; unreserved = refl }; steps = All-nil (IsDeclared nothing) }

pub read_is_whole : (text : Word) (p : Play) → read_script text ≡ Ok p → IsWhole p
read_is_whole text p e =
    let spelt = (scripts_are_exact text p).1 e in
    let sound = sound_goes nothing p spelt.lines nothing_sound spelt.go in
    record {
      kinds = sound.kinds;
      actors = sound.actors;
      cells = sound.cells;
      names = sound.space.names;
      unreserved = sound.space.unreserved;
      steps = sound.steps;
      few = omega (arith, size_goes nothing p spelt.lines spelt.go, spelt.few);
    }
