mod OrganFacts
