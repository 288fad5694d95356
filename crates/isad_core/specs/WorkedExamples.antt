-- A fonds and its series, worked by hand.
use Rattle.std.specs.Prelude.{[], codes, pos}
use Rattle.isad_core.specs.declared.display.Shown.{Shown}
use Rattle.isad_core.specs.declared.display.Body.TheVariants.{Full, Closed}

abbrev pub fonds : Shown
fonds = record { depth = 0; code = codes "GB 0999 HUL"; level = codes "Fonds"; title = codes "Hull Dock Company"; body = Full [] [] }

abbrev pub series : Shown
series = record { depth = 1; code = codes "GB 0999 HUL/1"; level = codes "Series"; title = codes "Minutes"; body = Full [] [] }

-- the series, closed until 2 March 2024
abbrev pub closed_series : Shown
closed_series = record { depth = 1; code = codes "GB 0999 HUL/1"; level = codes "Series"; title = codes "Minutes"; body = Closed (pos 19784) }
