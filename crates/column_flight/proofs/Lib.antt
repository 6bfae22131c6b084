pub mod FlightEvents
pub mod HeldKeys
pub mod FlightSteps
pub mod FlightLaws
pub mod TurnEvents
pub mod OwnEvents
