-- Limits that more than one crate above speaks of.
use Rattle.std.specs.Prelude.{◌≡◌, ℕ, refl}
use Rattle.lam_value.specs.declared.limits.TheConstants.{TAG_LIMIT, BYTES_LIMIT}

-- the most tags that a run may have
abbrev pub most_tags : ℕ
most_tags = TAG_LIMIT

-- the most bytes of a value
abbrev pub bytes_limit : ℕ
bytes_limit = BYTES_LIMIT

--- ---- worked examples
a_tag_for_each_of_two_bytes : most_tags ≡ 65536
a_tag_for_each_of_two_bytes = refl

as_many_bytes : bytes_limit ≡ 65536
as_many_bytes = refl
