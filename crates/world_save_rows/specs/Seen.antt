-- What the lists in code are seen as.
use Rattle.std.specs.Prelude.{◌≡◌, ℕ, string_bytes}
use Rattle.lam_value.specs.Homes.{Home, home_of}
use Rattle.world_save_terms.specs.Rows as terms
use Rattle.world_save_rows.specs.declared.home_list.HomeCount.{HomeCount}
use Rattle.world_save_rows.specs.declared.order.Row.{Row}

-- a home with its counter
abbrev pub home_seen : HomeCount → Home × ℕ
home_seen h = (home_of h.maker.now h.own.now, h.next)

-- a home by the texts of its labels, with its counter
abbrev pub row_seen : Row → terms.Row
row_seen r = record { maker = string_bytes r.maker; own = string_bytes r.own; next = r.next }
