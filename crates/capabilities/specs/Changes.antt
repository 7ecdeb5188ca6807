-- Capabilities, and the changes of a label that they allow.
--
-- With the tags 0 and 1: who holds plus {1} and minus {0} may change from `{0}/{}` to `{1}/{}`, since 1 is
-- added and 0 dropped. Who holds neither may not, and the rule that fails first is AddS, at 1.
use Rattle.std.specs.Prelude.{ℕ, IsTrue, [], ◌∷◌}
use Rattle.std.specs.FinSet.{empty, insert, union, difference, is_subset}
use Rattle.flow_labels.specs.declared.Label.{Label}
use Rattle.flow_labels.specs.declared.Rule.TheVariants.{AddS, DropS, AddI, DropI, Caps as caps_rule}
use Rattle.flow_labels.specs.Failing.{Test}
use Rattle.capabilities.specs.declared.Caps.{Caps}

abbrev pub no_caps : Caps
no_caps = record { plus = empty; minus = empty }

-- what the maker of a tag holds: plus {3} and minus {3} of no capabilities and the tag 3
abbrev pub with_both : Caps → ℕ → Caps
with_both c t = record { plus = insert c.plus t; minus = insert c.minus t }

-- what is held by one of two: what counts in a test are the capabilities of who acts, joined with the public ones
abbrev pub joined : Caps → Caps → Caps
joined c d = record { plus = union c.plus d.plus; minus = union c.minus d.minus }

-- What a release from x to y uses: to declassify takes the minus of each secret that is dropped, to endorse the
-- plus of each integrity tag that is added. From `{0,1}/{}` to `{1}/{2}` these are plus {2} and minus {0}.
abbrev pub used : Label → Label → Caps
used x y = record { plus = difference y.i x.i; minus = difference x.s y.s }

-- where c counts as held, a label may change from x to y: what is added has a plus, what is dropped has a minus
pub record MayChange (c : Caps) (x y : Label) : Type 0 where
  pub add_s : IsTrue (is_subset (difference y.s x.s) c.plus)
  pub drop_s : IsTrue (is_subset (difference x.s y.s) c.minus)
  pub add_i : IsTrue (is_subset (difference y.i x.i) c.plus)
  pub drop_i : IsTrue (is_subset (difference x.i y.i) c.minus)

-- c holds each capability of d
pub record Covers (c d : Caps) : Type 0 where
  pub plus : IsTrue (is_subset d.plus c.plus)
  pub minus : IsTrue (is_subset d.minus c.minus)

-- secrecy before integrity, adding before dropping
abbrev pub change_test : Caps → Label → Label → Test
change_test c x y =
    (AddS, difference (difference y.s x.s) c.plus)
    ∷ (DropS, difference (difference x.s y.s) c.minus)
    ∷ (AddI, difference (difference y.i x.i) c.plus)
    ∷ (DropI, difference (difference x.i y.i) c.minus) ∷ []

-- a plus that is not held before a minus
abbrev pub covers_test : Caps → Caps → Test
covers_test c d = (caps_rule, difference d.plus c.plus) ∷ (caps_rule, difference d.minus c.minus) ∷ []
