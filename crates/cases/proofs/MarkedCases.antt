-- The marked cases of documents 01 and 02 as one table: what each call gives, computed from the definitions, is the answer beside it.
use Prim.Native.Nat.{ℕ}
use mathlib.Core.Path.{◌≡◌, refl}
use mathlib.Core.Bool.{true, false}
use mathlib.Core.List.{List, [], ◌∷◌, ◌++◌}
use lib.IntN.{ℤ, pos, negsuc}
use Rattle.model.specs.Loops.{all_below, leading, sum, join}
use Rattle.model.specs.Least.{any, least, arg}
use Rattle.model.specs.Sets.{member, with, without}
use Rattle.model.specs.Instance.{metric, four_point_bpq, four_point_pq, four_point_q, four_point, nearest, at_nearest, assigned, opening_cost, service_cost, total_cost}
use Rattle.model.specs.Closing.{second, second_cost, cost_at, cost_elsewhere, closing_change}
use Rattle.model.specs.Floor.{excess_at, within_at, feasible, floor}
use Rattle.model.specs.Neighbours.{add_at, adds, drop_at, drops, swap_at, swaps_out, swaps, add_drop_swap}
use Rattle.model.specs.Search.{better, best, next, descend, search}
use Rattle.model.specs.Plans.{open_cost, open_start, open_search, limited_cost, limited_start, limited_search}
use Rattle.record.specs.Records.{record_at, amount_at, bytes_of}
use Rattle.model.specs.Answers.{Answer, accepted, refused}
use Rattle.questions.specs.Sheet.{is_yard, yards, hauls, farms, fee, haul, loads_byte, instance_of, instance_by}
use Rattle.questions.specs.Questions.{question1, question2, well_formed, well_formed_at, question3, numbered, no_yard_after, question4, haul_in_place, farm_in_place, question10, haul_loaded, farm_loaded, question5, amount_within, question6}
use Rattle.questions.specs.declared.Counts.{Counts}
use Rattle.questions.specs.Reading.{counts, form, form_and_loads, reading}
use Rattle.tariff.specs.Bands.{inside, charge, haul_by, last_end}
use Rattle.tariff.specs.Questions.{band_of, band_at, tariff_length, in_place, band_in_place, question11, no_rise, question12}
use Rattle.tariff.specs.Reading.{bands_of, tariff_reading}
use Rattle.tariff.proofs.BandBytes.{band_bytes}
use Rattle.tariff.specs.declared.TariffChoice.{TariffChoice}
use Rattle.tariff.specs.declared.TariffChoice.TheVariants.{NoTariff, HouseTariff, GivenTariff}
use Rattle.distances.specs.Priced.{priced_record, priced_at, priced_sheet, question13, priced_by, under_given, sheet_by, reading_by}
use Rattle.nearest.specs.Nearest.{Nearest}
use Rattle.nearest.specs.Nearest.{near}
use Rattle.plan_area.specs.Plan.{open_record, farm_record, total_record, moves_record, plan_bytes, question9}
use Rattle.price.specs.Pricing.{Plan, question8, pricing}
use Rattle.price_by.specs.PricingBy.{pricing_by}
use Rattle.shut.specs.Shutting.{second_of, seconding, question14, shutting}
use Rattle.shut_by.specs.ShuttingBy.{seconding_by, shutting_by}
use Rattle.floor.specs.Offering.{is_offer, offer_in_place, question15, question16, offering}
use Rattle.floor_by.specs.OfferingBy.{offering_by}
use Rattle.search.specs.SearchEnds.{settled_at, open_end, limited_end, plan_of}
use Rattle.search.specs.Planning.{open_plan, limited_plan, question7, open_planning, limited_planning}
use Rattle.by_tariff.specs.PlanningBy.{open_planning_by, limited_planning_by}
use Rattle.cases.proofs.CaseBytes.{yard, haul_to, two_yards, equal_hauls, with_fees, loaded, sheet_s, one_distance, offer, offered, second_is, two_bands, highest, opened, brings, served, ends}

-- ---- the calls, and what they give: the counts, a plan's records and moves, a second yard with the haul there, a change, or a floor; or a number

pub data Call : Type 0 where
  reads : List ℕ → Call
  prices : List ℕ → ℕ → Call
  plans : List ℕ → Call
  plans_limited : List ℕ → ℕ → Call
  reads_by : TariffChoice → List ℕ → List ℕ → Call
  prices_by : TariffChoice → List ℕ → List ℕ → ℕ → Call
  plans_by : TariffChoice → List ℕ → List ℕ → Call
  plans_limited_by : TariffChoice → List ℕ → List ℕ → ℕ → Call
  asks_second : List ℕ → ℕ → ℕ → Call
  shuts : List ℕ → ℕ → ℕ → Call
  asks_second_by : TariffChoice → List ℕ → List ℕ → ℕ → ℕ → Call
  shuts_by : TariffChoice → List ℕ → List ℕ → ℕ → ℕ → Call
  asks_floor : List ℕ → List ℕ → Call
  asks_floor_by : TariffChoice → List ℕ → List ℕ → List ℕ → Call

pub data Given : Type 0 where
  read_answer : Answer Counts → Given
  plan_answer : Answer Plan → Given
  second_answer : Answer Nearest → Given
  change_answer : Answer ℤ → Given
  floor_answer : Answer ℕ → Given

-- an area of 64 bytes holds every plan of S
room : ℕ
room = 64

pub given : Call → Given
given (reads s) = read_answer (reading s)
given (prices s set) = plan_answer (pricing s set room)
given (plans s) = plan_answer (open_planning s room)
given (plans_limited s k) = plan_answer (limited_planning s k room)
given (reads_by choice tariff s) = read_answer (reading_by choice tariff s)
given (prices_by choice tariff s set) = plan_answer (pricing_by choice tariff s set room)
given (plans_by choice tariff s) = plan_answer (open_planning_by choice tariff s room)
given (plans_limited_by choice tariff s k) = plan_answer (limited_planning_by choice tariff s k room)
given (asks_second s set farm) = second_answer (seconding s set farm)
given (shuts s set yard) = change_answer (shutting s set yard)
given (asks_second_by choice tariff s set farm) = second_answer (seconding_by choice tariff s set farm)
given (shuts_by choice tariff s set yard) = change_answer (shutting_by choice tariff s set yard)
given (asks_floor s offers) = floor_answer (offering s offers)
given (asks_floor_by choice tariff s offers) = floor_answer (offering_by choice tariff s offers)

-- ---- the answers of the calls that write a plan

gives : List ℕ → ℕ → Given
gives bytes moves = plan_answer (accepted record { bytes = bytes; moves = moves })

refuses : ℕ → Given
refuses k = plan_answer (refused k)

-- ---- the table

pub record Case : Type 0 where
  pub call : Call
  pub answer : Given

case : Call → Given → Case
case call answer = record { call = call; answer = answer }

pub table : List Case
table =
    -- S is accepted; its open plan
    case (reads sheet_s) (read_answer (accepted (counts 3 3)))
    ∷ case (plans sheet_s)
    (gives (opened 0 1 ++ opened 1 4 ++ opened 2 2 ++ served 0 0 1 ++ served 1 1 1 ++ served 2 2 1 ++ ends 3 3 10 2) 2)
    -- pricing {0, 2}, {1}, no yard, yard 3
    ∷ case (prices sheet_s 5) (gives (opened 0 1 ++ opened 2 2 ++ served 0 0 1 ++ served 1 0 5 ++ served 2 2 1 ++ ends 2 3 10 0) 0)
    ∷ case (prices sheet_s 2) (gives (opened 1 4 ++ served 0 1 3 ++ served 1 1 1 ++ served 2 1 5 ++ ends 1 3 13 0) 0)
    ∷ case (prices sheet_s 0) (refuses 8)
    ∷ case (prices sheet_s 8) (refuses 8)
    -- the limited plans for k = 1, 2, 3, and for 0 and 4
    ∷ case (plans_limited sheet_s 1) (gives (opened 1 4 ++ served 0 1 3 ++ served 1 1 1 ++ served 2 1 5 ++ ends 1 3 9 1) 1)
    ∷ case (plans_limited sheet_s 2) (gives (opened 1 4 ++ opened 2 2 ++ served 0 1 3 ++ served 1 1 1 ++ served 2 2 1 ++ ends 2 3 5 1) 1)
    ∷ case (plans_limited sheet_s 3)
    (gives (opened 0 1 ++ opened 1 4 ++ opened 2 2 ++ served 0 0 1 ++ served 1 1 1 ++ served 2 2 1 ++ ends 3 3 3 0) 0)
    ∷ case (plans_limited sheet_s 0) (refuses 7)
    ∷ case (plans_limited sheet_s 4) (refuses 7)
    -- the rule kept, and broken
    ∷ case (reads (two_yards 0 0 3)) (read_answer (accepted (counts 2 2)))
    ∷ case (reads (two_yards 0 0 4)) (read_answer (refused 6))
    -- equal hauls go to the lower fee, in a limited plan too, and only then to the lower number
    ∷ case (prices (equal_hauls 4 2 0 0) 3) (gives (opened 0 4 ++ opened 1 2 ++ served 0 1 3 ++ ends 2 1 9 0) 0)
    ∷ case (plans_limited (equal_hauls 4 2 0 0) 2) (gives (opened 0 4 ++ opened 1 2 ++ served 0 1 3 ++ ends 2 1 3 0) 0)
    ∷ case (prices (equal_hauls 2 2 0 0) 3) (gives (opened 0 2 ++ opened 1 2 ++ served 0 0 3 ++ ends 2 1 7 0) 0)
    -- paper 2, S with 1, 1 and 20 loads, the first told as 0: the open plan, pricing {0, 2} and {1}, the limited plan for 1. A haul counts times
    -- loads; a farm's record repeats the byte and has the haul of one load.
    ∷ case (plans (loaded 0 1 20)) (gives (opened 0 1 ++ opened 2 2 ++ brings 0 0 0 1 ++ brings 1 0 1 5 ++ brings 2 2 20 1 ++ ends 2 3 29 1) 1)
    ∷ case (prices (loaded 0 1 20) 5) (gives (opened 0 1 ++ opened 2 2 ++ brings 0 0 0 1 ++ brings 1 0 1 5 ++ brings 2 2 20 1 ++ ends 2 3 29 0) 0)
    ∷ case (prices (loaded 0 1 20) 2) (gives (opened 1 4 ++ brings 0 1 0 3 ++ brings 1 1 1 1 ++ brings 2 1 20 5 ++ ends 1 3 108 0) 0)
    ∷ case (plans_limited (loaded 0 1 20) 1) (gives (opened 2 2 ++ brings 0 2 0 9 ++ brings 1 2 1 5 ++ brings 2 2 20 1 ++ ends 1 3 34 1) 1)
    -- a byte above 20, bytes that differ within a farm, 0 beside 1
    ∷ case (reads (loaded 0 1 21)) (read_answer (refused 10))
    ∷ case (prices (equal_hauls 4 2 5 6) 3) (refuses 10)
    ∷ case (plans (equal_hauls 4 2 0 1)) (refuses 10)
    -- the rule is about one load
    ∷ case (reads (two_yards 1 20 3)) (read_answer (accepted (counts 2 2)))
    ∷ case (reads (two_yards 20 1 4)) (read_answer (refused 6))
    -- paper 3, "A distance of 120 costs 4,680" by the house tariff, and by a given one 100 at 40 and 20 at 7; the fee is not priced
    ∷ case (prices_by HouseTariff [] (one_distance 7 0 120) 1) (gives (opened 0 7 ++ served 0 0 4680 ++ ends 1 1 4687 0) 0)
    ∷ case (plans_by HouseTariff [] (one_distance 7 2 120)) (gives (opened 0 7 ++ brings 0 0 2 4680 ++ ends 1 1 9367 0) 0)
    ∷ case (plans_limited_by HouseTariff [] (one_distance 7 0 120) 1) (gives (opened 0 7 ++ served 0 0 4680 ++ ends 1 1 4680 0) 0)
    ∷ case (plans_by GivenTariff (two_bands 40 100 7) (one_distance 7 0 120)) (gives (opened 0 7 ++ served 0 0 4140 ++ ends 1 1 4147 0) 0)
    -- by none the amount is the haul
    ∷ case (plans_by NoTariff (two_bands 40 100 7) (one_distance 7 0 120)) (gives (opened 0 7 ++ served 0 0 120 ++ ends 1 1 127 0) 0)
    -- no band, an odd length, another kind, another number, a gap, an overlap, an empty band, a first band that does not start at 0
    ∷ case (reads_by GivenTariff [] sheet_s) (read_answer (refused 11))
    ∷ case (reads_by GivenTariff (highest ++ 0 ∷ []) sheet_s) (read_answer (refused 11))
    ∷ case (reads_by GivenTariff (yard 0 0) sheet_s) (read_answer (refused 11))
    ∷ case (reads_by GivenTariff (band_bytes 1 0 100 40) sheet_s) (read_answer (refused 11))
    ∷ case (reads_by GivenTariff (two_bands 40 101 7) sheet_s) (read_answer (refused 11))
    ∷ case (reads_by GivenTariff (two_bands 40 99 7) sheet_s) (read_answer (refused 11))
    ∷ case (reads_by GivenTariff (band_bytes 0 0 0 40) sheet_s) (read_answer (refused 11))
    ∷ case (reads_by GivenTariff (band_bytes 0 1 100 40) sheet_s) (read_answer (refused 11))
    -- a rate above the band before it; 11 comes first; both ahead of question 1, which a good tariff lets through to
    ∷ case (plans_by GivenTariff (two_bands 40 100 41) (one_distance 7 0 120)) (refuses 12)
    ∷ case (plans_by GivenTariff (two_bands 40 101 41) (one_distance 7 0 120)) (refuses 11)
    ∷ case (prices_by GivenTariff (two_bands 40 99 7) [] 1) (refuses 11)
    ∷ case (plans_limited_by GivenTariff (two_bands 40 100 41) [] 0) (refuses 12)
    ∷ case (reads_by GivenTariff (two_bands 40 100 40) []) (read_answer (refused 1))
    -- the last end, and past it; 10 before 13, 13 before 5
    ∷ case (reads_by HouseTariff [] (one_distance 7 0 4000)) (read_answer (accepted (counts 1 1)))
    ∷ case (reads_by HouseTariff [] (one_distance 7 0 4001)) (read_answer (refused 13))
    ∷ case (reads_by GivenTariff (two_bands 40 100 0) (one_distance 7 0 1001)) (read_answer (refused 13))
    ∷ case (reads_by HouseTariff [] (one_distance 7 21 4001)) (read_answer (refused 10))
    ∷ case (reads_by HouseTariff [] (one_distance 50000001 0 4001)) (read_answer (refused 13))
    ∷ case (reads_by HouseTariff [] (one_distance 50000001 0 4000)) (read_answer (refused 5))
    -- question 5 of the haul: 15 and 16 times 65,535
    ∷ case (reads_by GivenTariff highest (one_distance 7 0 15)) (read_answer (accepted (counts 1 1)))
    ∷ case (reads_by GivenTariff highest (one_distance 7 0 16)) (read_answer (refused 5))
    -- question 6 of the hauls: distances 1, 1, 1, 4 break the rule, and cost 40 each by the one tariff and 40, 40, 40, 160 by the other
    ∷ case (reads_by GivenTariff (band_bytes 0 0 1 40 ++ band_bytes 1 1 1000 0) (two_yards 0 0 4)) (read_answer (accepted (counts 2 2)))
    ∷ case (reads_by GivenTariff (two_bands 40 100 7) (two_yards 0 0 4)) (read_answer (refused 6))
    -- paper 5, the second yards of S with all three open: farm 1 is as near to 0 as to 2, which has the higher fee; none for farm 3, and none where one is
    -- open
    ∷ case (asks_second sheet_s 7 0) (second_answer (accepted (near true 1 3)))
    ∷ case (asks_second sheet_s 7 1) (second_answer (accepted (near true 0 5)))
    ∷ case (asks_second sheet_s 7 3) (second_answer (accepted (near false 0 0)))
    ∷ case (asks_second sheet_s 2 0) (second_answer (accepted (near false 0 0)))
    ∷ case (asks_second sheet_s 8 0) (second_answer (refused 8))
    ∷ case (asks_second (two_yards 0 0 4) 3 0) (second_answer (refused 6))
    -- shutting each yard of S: 11, 10 and 12 for 10; the farm as near to both saves the fee of either; with 1, 1 and 20 loads yard 1 of {0, 1} saves 4, and
    -- its farms pay 1 * 4 and 20 * 4 more
    ∷ case (shuts sheet_s 7 0) (change_answer (accepted (pos 1)))
    ∷ case (shuts sheet_s 7 1) (change_answer (accepted (pos 0)))
    ∷ case (shuts sheet_s 7 2) (change_answer (accepted (pos 2)))
    ∷ case (shuts (equal_hauls 4 2 0 0) 3 0) (change_answer (accepted (negsuc 3)))
    ∷ case (shuts (equal_hauls 4 2 0 0) 3 1) (change_answer (accepted (negsuc 1)))
    ∷ case (shuts (loaded 0 1 20) 3 1) (change_answer (accepted (pos 80)))
    -- a yard that is not in the set, one that the sheet has not, 32, the only yard; 8 comes first, and what reading asks before both
    ∷ case (shuts sheet_s 5 1) (change_answer (refused 14))
    ∷ case (shuts sheet_s 7 3) (change_answer (refused 14))
    ∷ case (shuts sheet_s 7 32) (change_answer (refused 14))
    ∷ case (shuts sheet_s 2 1) (change_answer (refused 14))
    ∷ case (shuts sheet_s 8 0) (change_answer (refused 8))
    ∷ case (shuts sheet_s 0 0) (change_answer (refused 8))
    ∷ case (shuts (two_yards 0 0 4) 0 9) (change_answer (refused 6))
    -- by the house tariff distances 1 and 3 cost 40 and 120; a refused tariff comes before all
    ∷ case (asks_second_by HouseTariff [] (two_yards 0 0 3) 3 1) (second_answer (accepted (near true 1 120)))
    ∷ case (shuts_by HouseTariff [] (two_yards 0 2 3) 3 0) (change_answer (accepted (pos 160)))
    ∷ case (shuts_by NoTariff [] (two_yards 0 2 3) 3 0) (change_answer (accepted (pos 4)))
    ∷ case (shuts_by GivenTariff (two_bands 40 100 41) [] 0 9) (change_answer (refused 12))
    -- paper 10, S: each yard is offered just its fee, and the sum is the open plan's total; one cent more of each farm; the highest amounts
    ∷ case (asks_floor sheet_s (offered 2 5 3)) (floor_answer (accepted 10))
    ∷ case (asks_floor sheet_s (offered 3 5 3)) (floor_answer (refused 16))
    ∷ case (asks_floor sheet_s (offered 2 6 3)) (floor_answer (refused 16))
    ∷ case (asks_floor sheet_s (offered 2 5 4)) (floor_answer (refused 16))
    ∷ case (asks_floor sheet_s (offered 4294967295 4294967295 4294967295)) (floor_answer (refused 16))
    -- with 1, 1 and 20 loads 2 + 5 + 20, and 20 cents for yard 2, whose fee is 2; with equal fees of 4, of which the limited plan for 1 hauls for 13 - 4
    ∷ case (asks_floor (loaded 0 1 20) (offered 2 5 1)) (floor_answer (accepted 27))
    ∷ case (asks_floor (loaded 0 1 20) (offered 2 5 2)) (floor_answer (refused 16))
    ∷ case (asks_floor (with_fees 4 4 4 0 0 0) (offered 3 5 5)) (floor_answer (accepted 13))
    -- another kind, byte 1, byte 3, a farm twice, two farms exchanged, a record too few or too many, part of one, none; 15 before 16
    ∷ case (asks_floor sheet_s (second_is 0x48 0 1 0)) (floor_answer (refused 15))
    ∷ case (asks_floor sheet_s (second_is 0x56 1 1 0)) (floor_answer (refused 15))
    ∷ case (asks_floor sheet_s (second_is 0x56 0 1 1)) (floor_answer (refused 15))
    ∷ case (asks_floor sheet_s (second_is 0x56 0 0 0)) (floor_answer (refused 15))
    ∷ case (asks_floor sheet_s (offer 1 5 ++ offer 0 2 ++ offer 2 3)) (floor_answer (refused 15))
    ∷ case (asks_floor sheet_s (offer 0 2 ++ offer 1 5)) (floor_answer (refused 15))
    ∷ case (asks_floor sheet_s (offered 2 5 3 ++ offer 3 0)) (floor_answer (refused 15))
    ∷ case (asks_floor sheet_s (offered 2 5 3 ++ 0 ∷ [])) (floor_answer (refused 15))
    ∷ case (asks_floor sheet_s []) (floor_answer (refused 15))
    ∷ case (asks_floor sheet_s (offer 0 9 ++ offer 1 9 ++ offer 1 9)) (floor_answer (refused 15))
    -- what reading asks comes first; by the house tariff a distance of 120 is offered 4,680 and the fee, by none 120 and the fee; a refused tariff
    ∷ case (asks_floor (two_yards 0 0 4) []) (floor_answer (refused 6))
    ∷ case (asks_floor_by HouseTariff [] (one_distance 7 0 120) (offer 0 4687)) (floor_answer (accepted 4687))
    ∷ case (asks_floor_by HouseTariff [] (one_distance 7 0 120) (offer 0 4688)) (floor_answer (refused 16))
    ∷ case (asks_floor_by NoTariff [] (one_distance 7 0 120) (offer 0 127)) (floor_answer (accepted 127))
    ∷ case (asks_floor_by NoTariff [] (one_distance 7 0 120) (offer 0 4687)) (floor_answer (refused 16))
    ∷ case (asks_floor_by GivenTariff (two_bands 40 100 41) [] []) (floor_answer (refused 12))
    ∷ []

pub expected : List Case → List Given
expected [] = []
expected (c ∷ cs) = c.answer ∷ expected cs

pub computed : List Case → List Given
computed [] = []
computed (c ∷ cs) = given c.call ∷ computed cs

pub marked_cases : computed table ≡ expected table
unfolding table case band_bytes two_bands highest one_distance gives refuses ends served brings opened given room offer offered second_is sheet_s loaded with_fees two_yards equal_hauls haul_to yard expected computed bytes_of record_at well_formed reading form_and_loads form question1 question2 well_formed_at question3 numbered no_yard_after question4 haul_in_place farm_in_place question10 haul_loaded farm_loaded question5 amount_within question6 is_yard yards hauls farms fee haul loads_byte instance_of instance_by all_below leading sum join any least arg member with without metric four_point_bpq four_point_pq four_point_q four_point nearest at_nearest assigned opening_cost service_cost total_cost add_at adds drop_at drops swap_at swaps_out swaps add_drop_swap better best next descend search open_cost open_start open_search limited_cost limited_start limited_search open_record farm_record total_record moves_record plan_bytes question9 question8 pricing open_end limited_end settled_at plan_of open_plan limited_plan question7 open_planning limited_planning inside charge haul_by last_end band_of band_at tariff_length in_place band_in_place question11 no_rise question12 bands_of tariff_reading priced_record priced_at priced_sheet question13 priced_by under_given sheet_by reading_by pricing_by open_planning_by limited_planning_by second second_cost cost_at cost_elsewhere closing_change second_of seconding question14 shutting seconding_by shutting_by amount_at excess_at within_at feasible floor is_offer offer_in_place question15 question16 offering offering_by
marked_cases = refl
