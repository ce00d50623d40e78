-- Dates as a calendar and a clock show them.
use Rattle.std.specs.Prelude.{◌≡◌, ℕ, zero, suc, ◌+◌, ◌-◌, ◌*◌, ◌/◌, ◌%◌, ◌<◌, ◌≤◌, ◌==◌, nat_lt, if◌then◌else◌, Bool, true, false, Option, None, Some}
use Rattle.mac_files.specs.declared.container.Container.TheVariants.{Raw, AppleSingle, AppleDouble, MacBinary}
use Rattle.mac_files.specs.declared.kind.FileKind.{FileKind}
use Rattle.mac_files.specs.declared.kind.FileKind.TheVariants.{Archive as Holds, BinHex, Container as In, Unknown}
use Rattle.file_facts.specs.declared.date.FileDate.{FileDate}
use Rattle.file_facts.specs.declared.date.Moment.{Moment}

-- from 1901 to 2099 each fourth year has 366 days
abbrev pub is_leap : ℕ → Bool
is_leap year = year % 4 == 0

abbrev pub leap_days : Bool → ℕ
leap_days true = 1
leap_days false = 0

-- how many days there are from the beginning of 1904 to that of a year up to 2100
abbrev pub days_to_year : ℕ → ℕ
days_to_year year = 365 * (year - 1904) + (year - 1901) / 4

-- how many days a month has
abbrev pub month_length : Bool → ℕ → ℕ
month_length leap month =
    if month == 2 then 28 + leap_days leap
    else if (month == 4) then 30 else if (month == 6) then 30 else if (month == 9) then 30 else if (month == 11) then 30 else 31

-- how many days the first months of a year have
abbrev pub days_of_months : Bool → ℕ → ℕ
days_of_months leap zero = 0
days_of_months leap (suc month) = days_of_months leap month + month_length leap (suc month)

-- it is a day of the calendar, and a second of the clock
pub record IsShown (moment : Moment) : Type 0 where
  pub first_year : 1904 ≤ moment.year
  pub last_year : moment.year < 2100
  pub month : 1 ≤ moment.month
  pub last_month : moment.month ≤ 12
  pub day : 1 ≤ moment.day
  pub last_day : moment.day ≤ month_length (is_leap moment.year) moment.month
  pub hour : moment.hour < 24
  pub minute : moment.minute < 60
  pub second : moment.second < 60

-- how many days after 1 January 1904 its day is
abbrev pub day_number : Moment → ℕ
day_number moment = days_to_year moment.year + days_of_months (is_leap moment.year) (moment.month - 1) + (moment.day - 1)

-- how many seconds it is after the beginning of its day
abbrev pub second_of_day : Moment → ℕ
second_of_day moment = moment.hour * 3600 + moment.minute * 60 + moment.second

-- it is so many seconds after the beginning of 1904
pub record IsMoment (seconds : ℕ) (moment : Moment) : Type 0 where
  pub shown : IsShown moment
  pub is : seconds ≡ 86400 * day_number moment + second_of_day moment

-- seconds from the beginning of 2000, with a sign, from that of 1904; the least is no date
abbrev pub apple_seconds : ℕ → Option ℕ
apple_seconds date = if date == 0x80000000 then None
    else Some (if nat_lt date 0x80000000 then date + 3029529600 else date - 1265437696)

-- seconds from the beginning of 1904; zero is no date
abbrev pub mac_seconds : ℕ → Option ℕ
mac_seconds date = if date == 0 then None else Some date

-- the date that a file of this kind says, in seconds from the beginning of 1904, if it says one
abbrev pub seconds_of : FileKind → ℕ → Option ℕ
seconds_of (In Raw) date = None
seconds_of (In AppleSingle) date = apple_seconds date
seconds_of (In AppleDouble) date = apple_seconds date
seconds_of (In (MacBinary version)) date = mac_seconds date
seconds_of BinHex date = None
seconds_of (Holds archive) date = None
seconds_of Unknown date = None

-- its dates are of Greenwich; others are of the place where the file was
abbrev pub is_universal : FileKind → Bool
is_universal (In AppleSingle) = true
is_universal (In AppleDouble) = true
is_universal other = false

-- the date that is shown is the one that the file says
pub record IsDateOf (kind : FileKind) (date : ℕ) (shown : FileDate) : Type 0 where
  pub moment : (seconds : ℕ) × (seconds_of kind date ≡ Some seconds) × IsMoment seconds shown.moment
  pub zone : shown.is_universal ≡ is_universal kind
