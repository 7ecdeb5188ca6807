-- Members that are read in the order of their names stand in that order in the value.
use Rattle.std.proofs.Common.{◌≡◌, List, ◌∷◌, ◌++◌, Option, Some, None, option_map, option_and_then, Ordering, Less, Equal, Greater, refl, sym, ap, ◌∙◌, subst, append_assoc, ℕ, []}
use Rattle.std.specs.Prelude.{⊤}
use Rattle.std.specs.Ordering.{nat_cmp, match_ordering, ordering_reverse}
use Rattle.std.specs.Cmp.Lexicographic.{slice_cmp}
use Rattle.std.specs.Cmp.{IsTotalOrder}
use Rattle.std.proofs.lemmas.Cmp.{nat_list_cmp_total}
use Rattle.json.specs.Json as json
use Rattle.serde_json.specs.Data.{Data, Members, no_members, member, put}
use Rattle.serde_json.specs.Read.{of_json, of_members}
use Rattle.serde_json.specs.Written.{members_outline, blank_members}

abbrev Name : Type 0
Name = List ℕ

abbrev total : IsTotalOrder (slice_cmp nat_cmp)
total = nat_list_cmp_total

turned : (k l : Name) (o : Ordering) → slice_cmp nat_cmp k l ≡ o → slice_cmp nat_cmp l k ≡ ordering_reverse o
turned k l o e = total.antisymm l k ∙ ap ordering_reverse e

-- ---- names that rise

-- a name is before all of these
abbrev Before : Name → List Name → Type 0
Before k [] = ⊤
Before k (l ∷ ls) = (slice_cmp nat_cmp k l ≡ Less) × Before k ls

abbrev Rise : List Name → Type 0
Rise [] = ⊤
Rise (k ∷ ks) = Before k ks × Rise ks

before_more : (k l : Name) (ls : List Name) → slice_cmp nat_cmp k l ≡ Less → Before l ls → Before k ls
before_more k l [] less b = tt
before_more k l (m ∷ ms) less b = (total.trans k l m less b.0, before_more k l ms less b.1)

abbrev names : Members → List Name
names no_members = []
names (member k d ms) = k ∷ names ms

before_put : (k l : Name) (d : Data) (ms : Members) → slice_cmp nat_cmp k l ≡ Less → Before k (names ms) → Before k (names (put l d ms))
before_put k l d no_members less b = (less, tt)
before_put k l d (member m e ms) less b = by (slice_cmp nat_cmp l m) (before_put k l d ms less b.1)
  where
    by : (o : Ordering) → Before k (names (put l d ms)) → Before k (names (match_ordering o (member l d (member m e ms)) (member m d ms) (member m e (put l d ms))))
    by Less more = (less, b)
    by Equal more = b
    by Greater more = (b.0, more)

rise_put : (k : Name) (d : Data) (ms : Members) → Rise (names ms) → Rise (names (put k d ms))
rise_put k d no_members r = (tt, tt)
rise_put k d (member l e ms) r = by (slice_cmp nat_cmp k l) refl (rise_put k d ms r.1)
  where
    by : (o : Ordering) → slice_cmp nat_cmp k l ≡ o → Rise (names (put k d ms)) → Rise (names (match_ordering o (member k d (member l e ms)) (member l d ms) (member l e (put k d ms))))
    by Less h more = ((h, before_more k l (names ms) h r.0), r)
    by Equal h more = r
    by Greater h more = (before_put l k d ms (turned k l Greater h) r.0, more)

one_members : (ms ns : Members) → ◌≡◌ {A = Option Members} (Some ms) (Some ns) → ms ≡ ns
one_members ms ns e = cc

-- the names of members that were read rise
pub rise_read : (ms : json.Members) (found all : Members) → Rise (names found) → of_members ms found ≡ Some all → Rise (names all)
rise_read json.no_members found all r e = subst (λ ns. Rise (names ns)) (one_members found all e) r
rise_read (json.member k j ms) found all r e = by (of_json j) e (λ d h. rise_read ms (put k d found) all (rise_put k d found r) h)
  where
    by : (o : Option Data) → option_and_then (λ d. of_members ms (put k d found)) o ≡ Some all → ((d : Data) → of_members ms (put k d found) ≡ Some all → Rise (names all)) → Rise (names all)
    by None h more = absurd (let no : ◌≡◌ {A = Option Members} None (Some all) = h in cc)
    by (Some d) h more = more d h

-- ---- members that are read in this order

abbrev beside : Members → Members → Members
beside no_members ns = ns
beside (member k d ms) ns = member k d (beside ms ns)

beside_none : (ms : Members) → beside ms no_members ≡ ms
beside_none no_members = refl
beside_none (member k d ms) = ap (member k d) (beside_none ms)

beside_one : (ms : Members) (k : Name) (d : Data) (ns : Members) → beside (beside ms (member k d no_members)) ns ≡ beside ms (member k d ns)
beside_one no_members k d ns = refl
beside_one (member l e ms) k d ns = ap (member l e) (beside_one ms k d ns)

names_beside : (ms ns : Members) → names (beside ms ns) ≡ names ms ++ names ns
names_beside no_members ns = refl
names_beside (member k d ms) ns = ap (λ (ks : List Name). k ∷ ks) (names_beside ms ns)

before_one : (l k : Name) (ks ms : List Name) → Before l (ks ++ k ∷ ms) → slice_cmp nat_cmp l k ≡ Less
before_one l k [] ms b = b.0
before_one l k (n ∷ ks) ms b = before_one l k ks ms b.1

-- a name that is after all others goes last
put_last : (k : Name) (d : Data) (ms : Members) (more : List Name) → Rise (names ms ++ k ∷ more) → put k d ms ≡ beside ms (member k d no_members)
put_last k d no_members more r = refl
put_last k d (member l e ms) more r =
    let after = turned l k Less (before_one l k (names ms) more r.0) in
    ap (λ o. match_ordering o (member k d (member l e ms)) (member l d ms) (member l e (put k d ms))) after ∙ ap (member l e) (put_last k d ms more r.1)

-- the members of JSON, each after the one before it
abbrev pub in_turn : json.Members → Option Members
in_turn json.no_members = Some no_members
in_turn (json.member k j ms) = option_and_then (λ d. option_map (member k d) (in_turn ms)) (of_json j)

abbrev labels : json.Members → List Name
labels json.no_members = []
labels (json.member k j ms) = k ∷ labels ms

record Follow (ms : json.Members) (found all : Members) : Type 0 where
  tail : Members
  turn : in_turn ms ≡ Some tail
  is : all ≡ beside found tail

more_follow : (k : Name) (j : json.Json) (ms : json.Members) (d : Data) (found all : Members) → of_json j ≡ Some d → put k d found ≡ beside found (member k d no_members) → Follow ms (put k d found) all → Follow (json.member k j ms) found all
more_follow k j ms d found all reads last f =
    record {
      tail = member k d f.tail;
      turn = ap (option_and_then (λ x. option_map (member k x) (in_turn ms))) reads ∙ ap (option_map (member k d)) f.turn;
      is = f.is ∙ ap (λ x. beside x f.tail) last ∙ beside_one found k d f.tail;
    }

follow : (ms : json.Members) (found all : Members) → of_members ms found ≡ Some all → Rise (names found ++ labels ms) → Follow ms found all
follow json.no_members found all e r = record { tail = no_members; turn = refl; is = sym (one_members found all e) ∙ sym (beside_none found) }
follow (json.member k j ms) found all e r =
    by (of_json j) refl e
    (λ d h.
    let last = put_last k d found (labels ms) r in
    let same = ap names last ∙ names_beside found (member k d no_members) in
    let rise = subst Rise (sym (append_assoc (names found) (k ∷ []) (labels ms)) ∙ ap (λ (ks : List Name). ks ++ labels ms) (sym same)) r in
    follow ms (put k d found) all h rise)
  where
    by : (o : Option Data) → of_json j ≡ o → option_and_then (λ d. of_members ms (put k d found)) o ≡ Some all → ((d : Data) → of_members ms (put k d found) ≡ Some all → Follow ms (put k d found) all) → Follow (json.member k j ms) found all
    by None h f more = absurd (let no : ◌≡◌ {A = Option Members} None (Some all) = f in cc)
    by (Some d) h f more = more_follow k j ms d found all h (put_last k d found (labels ms) r) (more d f)

blank_labels : (ms : json.Members) → labels (blank_members ms) ≡ labels ms
blank_labels json.no_members = refl
blank_labels (json.member k j ms) = ap (λ (ks : List Name). k ∷ ks) (blank_labels ms)

outline_labels : (ms : Members) → labels (members_outline ms) ≡ names ms
outline_labels no_members = refl
outline_labels (member k d ms) = ap (λ (ks : List Name). k ∷ ks) (outline_labels ms)

-- members whose outline stands in the value's order are read one after another
pub read_in_turn : (ms : json.Members) (all : Members) → of_members ms no_members ≡ Some all → blank_members ms ≡ members_outline all → in_turn ms ≡ Some all
read_in_turn ms all e same =
    let rise = rise_read ms no_members all tt e in
    let f = follow ms no_members all e (subst Rise (sym (outline_labels all) ∙ ap labels (sym same) ∙ blank_labels ms) rise) in
    f.turn ∙ ap Some (sym f.is)
