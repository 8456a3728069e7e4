mod OnePartMore
mod PartsJoined
mod RoundTrip
mod RowsGrow
mod TableLaid
mod TakenBack
mod Tripping
