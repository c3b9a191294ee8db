-- The codes of what is kept of the numbers of a group.
use Rattle.std.specs.{Prelude.{ℕ, Option, None, Some, ◌≡◌, refl}, Coded.{Coded, code_by, coded×, coded_ℕ, coded_list, coded_option}}
use Rattle.nntp_theory.specs.declared.demand.Demand.{Demand, TheVariants.{NoDemand, NotEmpty, OnlyOne, SecondIs, Impossible}}
use Rattle.nntp_numbers.specs.{declared.ends.Ends.{Ends}, Inner.Summary.{Summary}}

-- a demand as one of five
abbrev pub of_demand : Demand → Option (Option (Option (Option ℕ)))
of_demand NoDemand = None
of_demand NotEmpty = Some None
of_demand OnlyOne = Some (Some None)
of_demand Impossible = Some (Some (Some None))
of_demand (SecondIs n) = Some (Some (Some (Some n)))

-- the demand that is one of five
abbrev pub to_demand : Option (Option (Option (Option ℕ))) → Demand
to_demand None = NoDemand
to_demand (Some None) = NotEmpty
to_demand (Some (Some None)) = OnlyOne
to_demand (Some (Some (Some None))) = Impossible
to_demand (Some (Some (Some (Some n)))) = SecondIs n

pub same_demand_back : (d : Demand) → to_demand (of_demand d) ≡ d
same_demand_back NoDemand = refl
same_demand_back NotEmpty = refl
same_demand_back OnlyOne = refl
same_demand_back Impossible = refl
same_demand_back (SecondIs n) = refl

abbrev pub coded_demand : Coded Demand
coded_demand = code_by _ (coded_option (coded_option (coded_option (coded_option coded_ℕ)))) of_demand to_demand same_demand_back

abbrev pub coded_ends : Coded Ends
coded_ends = code_by _ (coded× coded_ℕ coded_ℕ) (λ e. (e.low, e.high)) (λ p. record { low = p.0; high = p.1 }) (λ _. refl)

abbrev pub coded_summary : Coded Summary
coded_summary =
    code_by _ (coded× (coded× (coded_list coded_ℕ) (coded_list (coded× coded_ℕ coded_ℕ))) (coded× (coded_option coded_ℕ) (coded× (coded_option coded_ends) coded_demand)))
    (λ s. ((s.shown, s.denied), (s.estimate, (s.ends, s.demand))))
    (λ p. record { shown = p.0.0; denied = p.0.1; estimate = p.1.0; ends = p.1.1.0; demand = p.1.1.1 }) (λ _. refl)
