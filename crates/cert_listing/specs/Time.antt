-- Instants as they are printed.
use Rattle.std.specs.Prelude.{◌≡◌, ℕ, zero, suc, ◌+◌, ◌-◌, ◌/◌, ◌%◌, ◌<◌, ◌≤◌, nat_lt}
use Rattle.std.specs.Prelude.{if◌then◌else◌, pos, ◌*ℤ◌, List, [], ◌∷◌, ◌++◌, codes, decimal}
use Rattle.jiff.specs.Words.{civil_nanos, days_in_month, days_in_year, iso_datetime_text}
use Rattle.jiff.specs.Types.{DateTime}
use Rattle.ssh_wire.specs.Ascii.{digit_zero}

-- the first second of the year 9999, counted from 1970
abbrev pub year_9999 : ℕ
year_9999 = 253_370_764_800

-- The year that is reached some days after 1 January of a year, and how many of the days are in it.
-- Each step subtracts one year.
unfoldable pub year_at : ℕ → ℕ → ℕ → ℕ × ℕ
year_at zero year days = (year, days)
year_at (suc steps) year days =
    if nat_lt days (days_in_year (pos year)) then (year, days)
    else year_at steps (year + 1) (days - days_in_year (pos year))

-- The month that is reached some days after the first of a month of this year, and how many of the
-- days are in it. Each step subtracts one month.
unfoldable pub month_at : ℕ → ℕ → ℕ → ℕ → ℕ × ℕ
month_at year zero month days = (month, days)
month_at year (suc steps) month days =
    if nat_lt days (days_in_month (pos year) month) then (month, days)
    else month_at year steps (month + 1) (days - days_in_month (pos year) month)

-- two digits
abbrev pub two_digits : ℕ → List ℕ
two_digits n = (digit_zero + n / 10) ∷ (digit_zero + n % 10) ∷ []

-- `1970-01-01`, given a year, a month, and how many days of the month have passed
unfoldable pub date_digits : ℕ → ℕ × ℕ → List ℕ
date_digits year (month, passed) =
    two_digits (year / 100) ++ (two_digits (year % 100) ++ (codes "-"
    ++ (two_digits month ++ (codes "-" ++ two_digits (passed + 1)))))

-- the date this many days after the first of 1970
unfoldable pub day_text : ℕ → List ℕ
day_text days =
    let year = year_at days 1970 days in
    date_digits year.0 (month_at year.0 11 1 year.1)

-- `00:00:00`, given the seconds of a day
unfoldable pub clock_text : ℕ → List ℕ
clock_text seconds =
    two_digits (seconds / 3_600) ++ (codes ":"
    ++ (two_digits (seconds / 60 % 60) ++ (codes ":" ++ two_digits (seconds % 60))))

-- The text of an instant, given in seconds since the first of 1970.
unfoldable pub instant_text : ℕ → List ℕ
instant_text seconds =
    if nat_lt seconds year_9999
    then day_text (seconds / 86_400)
    ++ (codes "T" ++ (clock_text (seconds % 86_400) ++ codes "Z"))
    else codes "@" ++ decimal seconds

-- The text is the date and the time of day, in UTC, this many seconds after the first of 1970.
pub record IsDateText (seconds : ℕ) (text : List ℕ) : Type 0 where
  pub datetime : DateTime
  pub instant : civil_nanos datetime ≡ pos seconds *ℤ pos 1_000_000_000
  pub spelled : text ≡ iso_datetime_text datetime ++ codes "Z"

-- The text is that of an instant: the date and the time of day, or from the year 9999 on the
-- number.
pub record IsTimeText (seconds : ℕ) (text : List ℕ) : Type 0 where
  pub date : seconds < year_9999 → IsDateText seconds text
  pub far : year_9999 ≤ seconds → text ≡ codes "@" ++ decimal seconds
