mod MemoryLaws
mod FuelLaws
mod NodeLaws
